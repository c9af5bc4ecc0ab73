use Rattle.text_limits.proofs.Adding.{placements_add_sums}
use Rattle.text_limits.proofs.placements_add_sums.Goals as goal

pub returns : goal.returns
returns c = placements_add_sums
