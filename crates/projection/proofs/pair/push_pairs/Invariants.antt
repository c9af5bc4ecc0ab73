use Rattle.std.proofs.Common.{◌≡◌, drop}
use Rattle.constraint_set.specs.Elimination.{pairs_of}
use Rattle.projection.specs.Answers.{after}
use Rattle.projection.proofs.pair.push_pairs.Given as goal

abbrev pub invariant-loop-p : goal.invariant-loop-p
invariant-loop-p l = after l.initial.out.items (pairs_of l.k l.raising l.lowering) ≡ after l.out.items (pairs_of l.k (drop l.p-index l.raising) l.lowering)
