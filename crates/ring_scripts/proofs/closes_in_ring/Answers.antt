use Rattle.ring_scripts.proofs.Texts.{closes_in_ring}
use Rattle.ring_scripts.proofs.closes_in_ring.Goals as goal

pub returns : goal.returns
returns c = closes_in_ring
