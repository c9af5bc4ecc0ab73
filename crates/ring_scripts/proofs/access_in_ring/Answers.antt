use Rattle.ring_scripts.proofs.Places.{access_in_ring}
use Rattle.ring_scripts.proofs.access_in_ring.Goals as goal

pub returns : goal.returns
returns c = access_in_ring
