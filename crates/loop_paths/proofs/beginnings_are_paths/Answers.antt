use Rattle.loop_paths.proofs.Beginnings.{beginnings}
use Rattle.loop_paths.proofs.beginnings_are_paths.Goals as goal

pub returns : goal.returns
returns c = beginnings
