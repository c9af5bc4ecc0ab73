-- Decimal texts of integers: an optional `-`, and then one digit or more.
use Rattle.std.specs.Prelude.{◌≡◌, ℕ, ◌≤◌, Bool, if◌then◌else◌, ◌&&◌, nat_lt, List, length, drop, Option, Some, None, ℤ, pos, neg_ℤ}
use Rattle.std.specs.Str.{all_ascii_digits}
use Rattle.std.specs.Str.Parse.{starts_with_minus, digits_value}
use Rattle.num_row.specs.Ints.{narrowed}

-- the text behind its `-`, if it begins with one
abbrev pub without_minus : List ℕ → List ℕ
without_minus text = if starts_with_minus text then drop 1 text else text

-- whether the bytes are such a text; a `+` isn't one of its bytes
abbrev pub is_decimal : List ℕ → Bool
is_decimal text = nat_lt 0 (length (without_minus text)) && all_ascii_digits (without_minus text)

-- the integer that such a text writes
abbrev pub decimal_value : List ℕ → ℤ
decimal_value text = if starts_with_minus text then neg_ℤ (pos (digits_value 10 (without_minus text))) else pos (digits_value 10 (without_minus text))

-- that integer, and none where the bytes aren't such a text or it doesn't fit
unfoldable pub decimal_number : List ℕ → Option ℤ
decimal_number text = if is_decimal text then narrowed (decimal_value text) else None

-- the text writes z, and no text that writes z is shorter
pub record IsShortestText (z : ℤ) (text : List ℕ) : Type 0 where
  pub read : decimal_number text ≡ Some z
  pub least : (other : List ℕ) → decimal_number other ≡ Some z → length text ≤ length other
