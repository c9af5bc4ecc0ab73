use Rattle.std.proofs.Common.{length, ◌-◌, ◌≡◌, ◌≤◌, ◌+◌, drop}
use Rattle.affine_lex.specs.Scan as spec
use Rattle.affine_lex.proofs.lexeme.run.Given as goal

abbrev pub invariant-loop-end : goal.invariant-loop-end
invariant-loop-end l = (spec.run l.class l.bytes ≡ l.end + spec.run l.class (drop l.end l.bytes)) × (l.end ≤ length l.bytes)

abbrev pub decreases-loop-end : goal.decreases-loop-end
decreases-loop-end l = length l.bytes - l.end
