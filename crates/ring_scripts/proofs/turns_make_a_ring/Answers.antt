use Rattle.ring_scripts.proofs.Turns.{turns_make_a_ring}
use Rattle.ring_scripts.proofs.turns_make_a_ring.Goals as goal

pub returns : goal.returns
returns c = turns_make_a_ring
