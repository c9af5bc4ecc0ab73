use Rattle.std.proofs.Common.{◌≡◌, drop}
use Rattle.constraint_set.specs.Reach.{negated}
use Rattle.projection.specs.Answers.{after}
use Rattle.dependence.proofs.stretches.negated.Given as goal

abbrev pub invariant-loop-number : goal.invariant-loop-number
invariant-loop-number l = negated l.numbers ≡ after l.out.items (negated (drop l.number-index l.numbers))
