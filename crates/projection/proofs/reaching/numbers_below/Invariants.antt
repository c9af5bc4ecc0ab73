use Rattle.std.proofs.Common.{◌≡◌, ◌++◌, ◌-◌}
use Rattle.constraint_set.specs.Elimination.{countdown}
use Rattle.projection.proofs.reaching.numbers_below.Given as goal

abbrev pub invariant-loop-passed : goal.invariant-loop-passed
invariant-loop-passed l = countdown l.count ≡ l.out.items ++ countdown (l.count - l.passed)
