use Rattle.std.proofs.Common.{◌≡◌, drop}
use Rattle.constraint_set.specs.Elimination.{pairs_with}
use Rattle.projection.specs.Answers.{after}
use Rattle.projection.proofs.pair.push_with.Given as goal

abbrev pub invariant-loop-n : goal.invariant-loop-n
invariant-loop-n l = after l.initial.out.items (pairs_with l.k l.p l.lowering) ≡ after l.out.items (pairs_with l.k l.p (drop l.n-index l.lowering))
