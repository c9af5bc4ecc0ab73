use Rattle.std.proofs.Common.{◌+◌, ◌*◌, length}
use Rattle.placement_stage.proofs.stage.+staging.Given as goal

abbrev pub decreases-staged_region : goal.decreases-staged_region
decreases-staged_region l = 4 * length l.inside.now + 4

abbrev pub decreases-staged_what : goal.decreases-staged_what
decreases-staged_what l = 4 * length l.inside.now + 5

abbrev pub decreases-staged_stmt : goal.decreases-staged_stmt
decreases-staged_stmt l = 4 * length l.inside.now + 2

abbrev pub decreases-staged_list : goal.decreases-staged_list
decreases-staged_list l = 4 * length l.inside.now + 3
