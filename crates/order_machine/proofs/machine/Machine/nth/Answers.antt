use Rattle.std.proofs.Common.{◌∙◌, sym, refl}
use Rattle.order_machine.proofs.Lists.{going_of, stuck_below, stuck_nth, free_first, free_below, free_nth}
use Rattle.order_machine.proofs.machine.Machine.nth.Goals as goal

pub step_of_engines-requires : goal.step_of_engines-requires
step_of_engines-requires c =
    let y = c.requires in
    let going = going_of y.0 y.1 _ y.3 y.2 y.4 c.args.n y.5 in
    stuck_below y.0 y.1 _ y.3 going y.2 y.4 c.args.n y.5 (sym c.is_stuck.ensures ∙ c.if-is_stuck.true)

pub returns-then-is_stuck : goal.returns-then-is_stuck
returns-then-is_stuck c = λ s steps enabled at is.
    (let y = c.requires in
    let going = going_of y.0 y.1 _ y.3 y.2 y.4 c.args.n y.5 in
    stuck_nth s steps _ at going enabled is c.args.n _ (sym c.is_stuck.ensures ∙ c.if-is_stuck.true) c.step_of_engines.ensures)

pub returns-then-n-eq0 : goal.returns-then-n-eq0
returns-then-n-eq0 c = λ s steps enabled at is.
    (let y = c.requires in
    let going = going_of y.0 y.1 _ y.3 y.2 y.4 c.args.n y.5 in
    free_first s steps _ at going enabled is c.args.n c.if-n-eq0.true (sym c.is_stuck.ensures ∙ c.if-is_stuck.false))

pub step_of_engines-requires-2 : goal.step_of_engines-requires-2
step_of_engines-requires-2 c =
    let y = c.requires in
    let going = going_of y.0 y.1 _ y.3 y.2 y.4 c.args.n y.5 in
    free_below y.0 y.1 _ y.3 going y.2 y.4 c.args.n _ y.5 c.if-n-eq0.false refl (sym c.is_stuck.ensures ∙ c.if-is_stuck.false)

pub returns : goal.returns
returns c = λ s steps enabled at is.
    (let y = c.requires in
    let going = going_of y.0 y.1 _ y.3 y.2 y.4 c.args.n y.5 in
    free_nth s steps _ at going enabled is c.args.n _ _ c.if-n-eq0.false refl (sym c.is_stuck.ensures ∙ c.if-is_stuck.false) c.step_of_engines-2.ensures)
