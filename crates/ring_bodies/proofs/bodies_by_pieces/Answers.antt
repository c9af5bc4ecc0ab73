use Rattle.ring_bodies.proofs.Pieces.{bodies_by_pieces}
use Rattle.ring_bodies.proofs.bodies_by_pieces.Goals as goal

pub returns : goal.returns
returns c = bodies_by_pieces
