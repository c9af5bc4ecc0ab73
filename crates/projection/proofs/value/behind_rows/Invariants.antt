use Rattle.std.proofs.Common.{◌≡◌, ◌++◌, map, drop}
use Rattle.constraint_set.specs.Reach.{behind}
use Rattle.projection.proofs.value.behind_rows.Given as goal

abbrev pub invariant-loop-row : goal.invariant-loop-row
invariant-loop-row l = map behind l.rows ≡ l.out.items ++ map behind (drop l.row-index l.rows)
