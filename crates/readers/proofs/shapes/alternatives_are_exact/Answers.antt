use Rattle.readers.proofs.Laws.{exact_choice}
use Rattle.readers.proofs.shapes.alternatives_are_exact.Goals as goal

pub returns : goal.returns
returns g c = let a = g.A.Alternative in exact_choice a.test a.left_faithful a.right_exact a.left_ahead a.right_ahead
