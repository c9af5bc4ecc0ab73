use Rattle.std.proofs.Common.{refl}
use Rattle.order_machine.proofs.Chosen.{ran_none, ran_more, fewer, halts}
use Rattle.order_machine.proofs.machine.Machine.run_by.Goals as goal

pub loop-self-init : goal.loop-self-init
loop-self-init c = λ s at. ran_none s c.args.pick _ at

pub choose-number-requires-clause-somewhere : goal.choose-number-requires-clause-somewhere
choose-number-requires-clause-somewhere c = let r = c.loop-self.invariant c.requires.0 c.requires.1 in (c.requires.0, r.steps, r.at)

pub loop-self-preserved : goal.loop-self-preserved
loop-self-preserved c = λ s at. let r = c.loop-self.invariant s at in ran_more s c.args.pick _ _ _ _ _ _ _ r c.next_number-x.ensures (c.choose-number.ensures s r.steps r.at) refl

pub loop-self-smaller : goal.loop-self-smaller
loop-self-smaller c = let r = c.loop-self.invariant c.requires.0 c.requires.1 in let k = c.choose-number.ensures c.requires.0 r.steps r.at in fewer c.requires.0 r.steps k.step _ _ r.at k.at

pub returns-in-Some : goal.returns-in-Some
returns-in-Some c = λ s at. halts s c.args.pick _ _ _ c.in-Some.verdict (c.loop-self.invariant s at) c.in-Some.is
