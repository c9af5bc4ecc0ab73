use Rattle.text_limits.proofs.Telling.{placements_are_told}
use Rattle.text_limits.proofs.placements_are_told.Goals as goal

pub returns : goal.returns
returns c = placements_are_told
