use Rattle.std.proofs.Common.{◌≡◌, drop}
use Rattle.constraint_set.specs.Elimination.{mixed_by}
use Rattle.projection.specs.Answers.{after}
use Rattle.projection.proofs.pair.mix.Given as goal

abbrev pub invariant-loop-i : goal.invariant-loop-i
invariant-loop-i l = mixed_by l.a l.left l.b l.right ≡ after l.coefs.items (mixed_by l.a (drop l.i l.left) l.b (drop l.i l.right))
