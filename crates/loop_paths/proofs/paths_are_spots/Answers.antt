use Rattle.loop_paths.proofs.Beginnings.{spots}
use Rattle.loop_paths.proofs.paths_are_spots.Goals as goal

pub returns : goal.returns
returns c = spots
