use Rattle.ring_scripts.proofs.Loops.{loops_are_cut}
use Rattle.ring_scripts.proofs.loops_are_cut.Goals as goal

pub returns : goal.returns
returns c = loops_are_cut
