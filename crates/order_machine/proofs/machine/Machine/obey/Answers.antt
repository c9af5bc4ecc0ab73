use Rattle.order_machine.specs.declared.machine.NotEnabled.{NotEnabled}
use Rattle.order_machine.proofs.Obeyed.{obeying_none, obeying_more, obeying_fewer, obeyed}
use Rattle.order_machine.proofs.machine.Machine.obey.Goals as goal

pub loop-step-init : goal.loop-step-init
loop-step-init c = λ s at. obeying_none s c.args.policy _ at

pub choice-requires : goal.choice-requires
choice-requires c = let r = c.loop-step.invariant c.requires.0 c.requires.1 in (c.requires.0, r.steps, r.at)

pub step-requires : goal.step-requires
step-requires c = let r = c.loop-step.invariant c.requires.0 c.requires.1 in (c.requires.0, r.steps, r.at)

pub loop-step-preserved : goal.loop-step-preserved
loop-step-preserved c = λ s at. let r = c.loop-step.invariant s at in obeying_more s c.args.policy _ _ r c.in-Some.step (c.in-Some.ensures s r.steps r.at) NotEnabled c.step.result _ (c.step.ensures s r.steps r.at) _ c.moved_by-moved.ensures

pub loop-step-smaller : goal.loop-step-smaller
loop-step-smaller c =
    let s = c.requires.0 in
    let r = c.loop-step.invariant s c.requires.1 in obeying_fewer s c.args.policy _ _ r c.in-Some.step (c.in-Some.ensures s r.steps r.at) NotEnabled c.step.result _ (c.step.ensures s r.steps r.at)

pub returns : goal.returns
returns c = λ s at. let r = c.loop-step.invariant s at in obeyed s c.args.policy _ _ r (c.in_default.ensures s r.steps r.at)
