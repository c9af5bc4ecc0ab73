use Rattle.std.proofs.Common.{length, ◌-◌, ◌≡◌, ◌≤◌, ◌+◌, drop, false}
use Rattle.affine_lex.specs.Scan.{gap_in}
use Rattle.affine_lex.proofs.lexer.gap.Given as goal

abbrev pub invariant-loop-at : goal.invariant-loop-at
invariant-loop-at l = (gap_in false l.bytes ≡ l.at + gap_in l.comment (drop l.at l.bytes)) × (l.at ≤ length l.bytes)

abbrev pub decreases-loop-at : goal.decreases-loop-at
decreases-loop-at l = length l.bytes - l.at
