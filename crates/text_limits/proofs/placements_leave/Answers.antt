use Rattle.text_limits.proofs.Left.{placements_leave}
use Rattle.text_limits.proofs.placements_leave.Goals as goal

pub returns : goal.returns
returns c = placements_leave
