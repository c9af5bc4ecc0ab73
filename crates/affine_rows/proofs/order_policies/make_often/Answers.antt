use Rattle.order_machine.specs.declared.machine.NotEnabled.{NotEnabled}
use Rattle.affine_rows.proofs.Stepping.{goes_on}
use Rattle.affine_rows.proofs.order_policies.make_often.Goals as goal

pub loop-turn-preserved : goal.loop-turn-preserved
loop-turn-preserved c = goes_on NotEnabled _ _ c.args.step c.step.result c.loop-turn.invariant c.step.ensures
