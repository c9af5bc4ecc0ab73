use Rattle.std.proofs.Common.{◌≡◌, drop}
use Rattle.constraint_set.specs.Reach.{has_negative}
use Rattle.projection.proofs.reaching.is_negative.Given as goal

abbrev pub invariant-loop-at : goal.invariant-loop-at
invariant-loop-at l = has_negative l.rows.rows ≡ has_negative (drop l.at l.rows.rows)
