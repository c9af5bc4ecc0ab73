use Rattle.ring_scripts.proofs.Places.{ring_place_is}
use Rattle.ring_scripts.proofs.ring_place_is.Goals as goal

pub returns : goal.returns
returns c = ring_place_is
