use Rattle.std.proofs.Common.{◌≡◌, ◌++◌, drop, map}
use Rattle.dependence.specs.Clashes.{filled}
use Rattle.dependence.proofs.clashes.system_of.Given as goal

abbrev pub invariant-loop-row : goal.invariant-loop-row
invariant-loop-row l = (l.out.vars ≡ l.vars) × (map (filled l.vars) l.rows ≡ l.out.rows ++ map (filled l.vars) (drop l.row-index l.rows))
