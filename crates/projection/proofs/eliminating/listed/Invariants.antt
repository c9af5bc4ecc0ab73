use Rattle.std.proofs.Common.{◌≡◌, ◌++◌, drop}
use Rattle.projection.proofs.eliminating.listed.Given as goal

abbrev pub invariant-loop-at : goal.invariant-loop-at
invariant-loop-at l = (l.out.vars ≡ l.rows.vars) × (l.out.rows ++ drop l.at l.rows.rows ≡ l.rows.rows)
