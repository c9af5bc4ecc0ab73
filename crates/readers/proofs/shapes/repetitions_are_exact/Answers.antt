use Rattle.readers.proofs.Laws.{exact_many}
use Rattle.readers.proofs.shapes.repetitions_are_exact.Goals as goal

pub returns : goal.returns
returns g c = let r = g.R.Repetition in exact_many r.items r.begins r.goes_on
