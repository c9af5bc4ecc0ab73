use Rattle.std.proofs.Common.{◌≡◌, drop}
use Rattle.constraint_set.specs.Elimination.{◌>>=◌, or_wide}
use Rattle.constraint_set.specs.Reach.{bounds_by}
use Rattle.projection.specs.Reaches.{tightest_of, bound_at}
use Rattle.projection.proofs.Ends.{reduced_from}
use Rattle.projection.proofs.bounds.tightest.Given as goal

abbrev pub invariant-loop-row : goal.invariant-loop-row
invariant-loop-row l = tightest_of l.end l.rows ≡ (bounds_by (bound_at l.end) (drop l.row-index l.rows) >>= (λ bounds. or_wide (reduced_from l.end l.best bounds)))
