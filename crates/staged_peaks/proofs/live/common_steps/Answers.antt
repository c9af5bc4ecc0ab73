use Rattle.std.proofs.Common.{arith}
use Rattle.staged_peaks.proofs.Steps.{shared_ends}
use Rattle.staged_peaks.proofs.live.common_steps.Goals as goal

pub returns-else-count-right : goal.returns-else-count-right
returns-else-count-right c =
    let e = c.loop-count.invariant.2 in let f = shared_ends c.args.left.now c.args.right.now c.loop-count.count c.if-count-right.false in omega (arith, e, f)
