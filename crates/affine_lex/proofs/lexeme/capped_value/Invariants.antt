use Rattle.std.proofs.Common.{◌≡◌, ◌≤◌, ◌+◌, ◌*◌, ◌-◌, ◌^◌, min, drop}
use Rattle.std.specs.List.{fold}
use Rattle.affine_lex.specs.Scan.{too_large}
use Rattle.affine_lex.proofs.lexeme.capped_value.Given as goal

abbrev pub invariant-loop-digit : goal.invariant-loop-digit
invariant-loop-digit l = (fold (λ n b. min (10 * n + (b - 48)) too_large) 0 l.digits ≡ fold (λ n b. min (10 * n + (b - 48)) too_large) l.value (drop l.digit-index l.digits)) × (l.value ≤ 2 ^ 63 + 1)
