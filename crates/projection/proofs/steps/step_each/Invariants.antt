use Rattle.std.proofs.Common.{◌≡◌, drop}
use Rattle.constraint_set.specs.Elimination.{steps}
use Rattle.projection.proofs.steps.step_each.Given as goal

abbrev pub invariant-loop-k : goal.invariant-loop-k
invariant-loop-k l = (l.rows.vars ≡ l.initial.rows.vars) × (steps l.vars l.initial.rows.rows ≡ steps (drop l.k-index l.vars) l.rows.rows)
