use Rattle.std.proofs.Common.{◌∙◌, rules, refl, sym, ap, subst, w64, SFits}
use Rattle.std.proofs.lemmas.Int.{to_z-of_z}
use Rattle.walk_actions.specs.Meant.{meant}
use Rattle.run_parts.specs.Effects.{effect_meant}
use Rattle.run_parts.specs.Settled.{settled, CanSettle}
use Rattle.run_parts.specs.Registered.{values_of}
use Rattle.order_meaning.specs.Machine.{act_on}
use Rattle.order_memory.specs.Reaches.{CanDo}
use Rattle.order_memory.specs.Tied.{Follows}
use Rattle.order_memory.proofs.Acts.{same_registers}
use Rattle.order_memory.proofs.Settles.{settled_does}
use Rattle.order_memory.proofs.memory.Memory.do_next.Goals as goal

pub settle-effect-requires-clause-can : goal.settle-effect-requires-clause-can
settle-effect-requires-clause-can c = let y = c.requires.can in subst (CanSettle (meant c.args.self.now.registers.names c.args.subscripts.now c.args.action)) y.2.registers y.3.settles

pub act-requires-clause-can : goal.act-requires-clause-can
act-requires-clause-can c =
    let y = c.requires.can in
    let m = c.args.self.now in
    let back = c.settle-effect.ensures.same in
    let is = ap (λ r. effect_meant r.names c.settle-effect.result) back ∙ c.settle-effect.ensures.effect ∙ ap (λ v. settled v (meant m.registers.names c.args.subscripts.now c.args.action)) (sym y.2.registers) in
    (y.0, y.1, same_registers y.0 y.1 _ y.2 _ (ap values_of back) refl refl refl refl refl, subst (λ a. CanDo y.0 c.args.capacity a y.1) (sym is) y.3.can)

pub returns-clause-follows : goal.returns-clause-follows
returns-clause-follows c = λ rooms x t can.
    (let m = c.args.self.now in
    let a = meant m.registers.names c.args.subscripts.now c.args.action in
    let back = c.settle-effect.ensures.same in
    let is = ap (λ r. effect_meant r.names c.settle-effect.result) back ∙ c.settle-effect.ensures.effect ∙ ap (λ v. settled v a) (sym t.registers) in
    let fits : SFits w64 c.args.filler = search rules in
    let again = same_registers rooms x _ t _ (ap values_of back) refl refl refl refl refl in
    subst (λ o. Follows rooms c.act.result o c.act.new.self) ((λ k. act_on (to_z-of_z w64 c.args.filler fits k) c.args.capacity (is k) x) ∙ settled_does c.args.filler c.args.capacity a x)
    (c.act.ensures.follows rooms x again (subst (λ b. CanDo rooms c.args.capacity b x) (sym is) can.can)))
