use Rattle.std.proofs.Common.{◌≡◌, drop}
use Rattle.constraint_set.specs.Tidy.{tidied, reduced, merged}
use Rattle.projection.proofs.tidy.tidy.Given as goal

abbrev pub invariant-loop-row : goal.invariant-loop-row
invariant-loop-row l = (l.out.vars ≡ l.vars) × (tidied l.rows ≡ merged l.out.rows (reduced (drop l.row-index l.rows)))
