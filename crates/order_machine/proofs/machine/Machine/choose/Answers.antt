use Rattle.std.proofs.Common.{refl, arith}
use Rattle.order_machine.proofs.Chosen.{some_number, chooses, number_below}
use Rattle.order_machine.proofs.machine.Machine.choose.Goals as goal

pub nonzero_rem-number : goal.nonzero_rem-number
nonzero_rem-number c =
    let y = c.requires.somewhere in
    let l = c.enabled.ensures y.0 y.1 y.2 in
    let k = some_number y.0 y.1 _ y.2 c.requires.going l.0 l.1 in omega (arith, k, l.2)

pub nth-step-requires : goal.nth-step-requires
nth-step-requires c =
    let y = c.requires.somewhere in
    let l = c.enabled.ensures y.0 y.1 y.2 in
    (y.0, y.1, l.0, y.2, l.1, number_below _ c.enabled.result (l.0) (some_number y.0 y.1 _ y.2 c.requires.going l.0 l.1) l.2)

pub returns : goal.returns
returns c = λ s steps at.
    (let l = c.enabled.ensures s steps at in
    chooses s steps _ at c.requires.going _ l.0 l.1 c.args.x _ c.enabled.result l.2 refl c.nth-step.result (c.nth-step.ensures s steps l.0 at l.1) c.step.result c.step.new.self (c.step.ensures s steps at))
