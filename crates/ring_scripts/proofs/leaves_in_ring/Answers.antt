use Rattle.ring_scripts.proofs.Starts.{leaves_in_ring}
use Rattle.ring_scripts.proofs.leaves_in_ring.Goals as goal

pub returns : goal.returns
returns c = leaves_in_ring
