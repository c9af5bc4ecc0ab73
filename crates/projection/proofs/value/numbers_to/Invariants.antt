use Rattle.std.proofs.Common.{◌≡◌, ◌++◌, ◌-◌, suc, map}
use Rattle.constraint_set.specs.Elimination.{countdown}
use Rattle.projection.proofs.value.numbers_to.Given as goal

abbrev pub invariant-loop-passed : goal.invariant-loop-passed
invariant-loop-passed l = map suc (countdown l.count) ≡ l.out.items ++ map suc (countdown (l.count - l.passed))
