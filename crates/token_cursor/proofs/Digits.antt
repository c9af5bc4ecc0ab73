-- The value of digits as a size, which ends where sizes do.
use Rattle.std.proofs.Common.{◌≡◌, ℕ, ◌+◌, ◌*◌, ◌<◌, List, length, take, get_or, arith, min, ap, sym, ◌∙◌}
use Rattle.std.specs.Char.{digit_value}
use Rattle.std.specs.Str.Parse.{digits_value}
use Rattle.std.proofs.lemmas.Int.Digits.{digits_value_more}

capped : (v d c : ℕ) → 0 < c → min (min v c * 10 + d) c ≡ min (v * 10 + d) c
capped v d c h = omega arith

-- one digit more
pub capped_more : (ds : List ℕ) (i : ℕ) → i < length ds → min (digits_value 10 (take (i + 1) ds)) 4294967296 ≡ min (min (digits_value 10 (take i ds)) 4294967296 * 10 + digit_value (get_or ds i 0)) 4294967296
capped_more ds i h = ap (λ v. min v 4294967296) (digits_value_more 10 ds i h) ∙ sym (capped (digits_value 10 (take i ds)) (digit_value (get_or ds i 0)) 4294967296 (omega arith))
