use Rattle.std.proofs.Common.{length}
use Rattle.overlap_runner.proofs.run.+fn-run_beside-join_mut+arg3+run_beside.Given as goal

abbrev pub decreases-join_mut+arg3 : goal.decreases-join_mut+arg3
decreases-join_mut+arg3 g l = length l.others.now

abbrev pub decreases-run_beside : goal.decreases-run_beside
decreases-run_beside g l = length l.engines.now
