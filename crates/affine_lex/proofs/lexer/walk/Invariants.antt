use Rattle.std.proofs.Common.{◌≡◌, ◌≤◌, ◌<◌, ◌+◌, drop}
use Rattle.std.specs.List.{fold}
use Rattle.affine_lex.specs.Scan.{stepped}
use Rattle.affine_lex.proofs.lexer.walk.Given as goal

abbrev pub invariant-loop-byte : goal.invariant-loop-byte
invariant-loop-byte l = (fold stepped l.fn.place l.bytes ≡ fold stepped l.here (drop l.byte-index l.bytes)) × (l.here.line ≤ l.fn.place.line + l.byte-index) × (l.here.column ≤ l.fn.place.column + l.byte-index) × (0 < l.here.column)
