use Rattle.ring_scripts.proofs.Starts.{waits_in_ring}
use Rattle.ring_scripts.proofs.waits_in_ring.Goals as goal

pub returns : goal.returns
returns c = waits_in_ring
