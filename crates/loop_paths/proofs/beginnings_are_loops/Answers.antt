use Rattle.loop_paths.proofs.Beginnings.{loops}
use Rattle.loop_paths.proofs.beginnings_are_loops.Goals as goal

pub returns : goal.returns
returns c = loops
