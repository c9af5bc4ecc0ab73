use Rattle.std.proofs.Common.{◌≡◌, ◌++◌, drop}
use Rattle.dependence.proofs.clashes.copied.Given as goal

abbrev pub invariant-loop-row : goal.invariant-loop-row
invariant-loop-row l = l.rows ≡ l.out.items ++ drop l.row-index l.rows
