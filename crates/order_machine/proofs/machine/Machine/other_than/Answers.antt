use Rattle.std.proofs.Common.{◌∙◌, sym, refl, arith}
use Rattle.order_machine.proofs.Obeyed.{other_here, other_on, other_end}
use Rattle.order_machine.proofs.machine.Machine.other_than.Goals as goal

pub loop-n-init : goal.loop-n-init
loop-n-init c = λ s steps enabled at is. refl

pub nth-step-requires : goal.nth-step-requires
nth-step-requires c = let y = c.requires in let l = c.enabled-count.ensures y.0 y.1 y.2 in (y.0, y.1, l.0, y.2, l.1, omega (arith, l.2, c.loop-n-test.true))

pub returns-then-not-is_of : goal.returns-then-not-is_of
returns-then-not-is_of c = λ s steps at.
    (let l = c.enabled-count.ensures s steps at in
    (l.0, l.1, sym (other_here c.args.engine l.0 c.loop-n.n c.nth-step.result (c.nth-step.ensures s steps l.0 at l.1) (sym c.is_of.ensures ∙ c.if-not-is_of.true)) ∙ c.loop-n.invariant s steps l.0 at l.1))

pub loop-n-preserved : goal.loop-n-preserved
loop-n-preserved c = λ s steps enabled at is. other_on c.args.engine enabled c.loop-n.n c.nth-step.result _ (c.nth-step.ensures s steps enabled at is) (sym c.is_of.ensures ∙ c.if-not-is_of.false) (c.loop-n.invariant s steps enabled at is)

pub returns : goal.returns
returns c = λ s steps at.
    (let l = c.enabled-count.ensures s steps at in
    (l.0, l.1, sym (other_end c.args.engine l.0 c.loop-n.n (omega (arith, l.2, c.loop-n-test.false))) ∙ c.loop-n.invariant s steps l.0 at l.1))
