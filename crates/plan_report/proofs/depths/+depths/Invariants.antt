use Rattle.std.proofs.Common.{◌+◌, ◌*◌, length}
use Rattle.plan_report.proofs.depths.+depths.Given as goal

abbrev pub decreases-depth_from : goal.decreases-depth_from
decreases-depth_from l = 3 * length l.steps.now + 2

abbrev pub decreases-depth_in : goal.decreases-depth_in
decreases-depth_in l = 3 * length l.steps.now + 1

abbrev pub decreases-depth_below : goal.decreases-depth_below
decreases-depth_below l = 3 * length l.steps.now + 3
