use Rattle.ring_scripts.proofs.Texts.{opens_in_ring}
use Rattle.ring_scripts.proofs.opens_in_ring.Goals as goal

pub returns : goal.returns
returns c = opens_in_ring
