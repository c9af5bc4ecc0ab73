use Rattle.ring_scripts.proofs.Texts.{work_in_ring}
use Rattle.ring_scripts.proofs.work_in_ring.Goals as goal

pub returns : goal.returns
returns c = work_in_ring
