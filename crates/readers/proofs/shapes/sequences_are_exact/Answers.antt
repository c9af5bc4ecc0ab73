use Rattle.readers.proofs.Laws.{exact_bind}
use Rattle.readers.proofs.shapes.sequences_are_exact.Goals as goal

pub returns : goal.returns
returns g c = let s = g.S.Sequence in exact_bind s.first_exact s.second_exact s.apart
