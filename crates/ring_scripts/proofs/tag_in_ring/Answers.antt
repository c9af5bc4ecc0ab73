use Rattle.ring_scripts.proofs.Places.{tag_in_ring}
use Rattle.ring_scripts.proofs.tag_in_ring.Goals as goal

pub returns : goal.returns
returns c = tag_in_ring
