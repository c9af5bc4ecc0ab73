use Rattle.ring_bodies.proofs.Steps.{turns_by_pieces}
use Rattle.ring_bodies.proofs.turns_by_pieces.Goals as goal

pub returns : goal.returns
returns c = turns_by_pieces
