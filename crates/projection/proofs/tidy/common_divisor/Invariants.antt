use Rattle.std.proofs.Common.{◌≡◌, drop}
use Rattle.constraint_set.specs.Tidy.{divisor_from}
use Rattle.projection.proofs.tidy.common_divisor.Given as goal

abbrev pub invariant-loop-number : goal.invariant-loop-number
invariant-loop-number l = divisor_from l.first l.numbers ≡ divisor_from l.shared (drop l.number-index l.numbers)
