-- The texts of numbers, and what they write.
use Rattle.std.proofs.Common.{◌≡◌, ℕ, ◌^◌, ◌≤◌, List, [], ◌∷◌, ◌&&◌, length, Bool, true, false, Option, Some, None, ℤ, pos, negsuc, refl, ◌∙◌, ap, arith, ◌<ℤ◌, FitsSigned, MatchOption}
use Rattle.std.proofs.lemmas.Int.{ints}
use Rattle.std.proofs.lemmas.Bool.{ltb-false}
use Rattle.std.proofs.Math.Bool.{and-false}
use Rattle.std.specs.Prelude.{int_le, nat_le, nat_lt, if◌then◌else◌}
use Rattle.std.specs.Int.{w64}
use Rattle.std.specs.Char.{is_ascii_digit}
use Rattle.std.specs.List.{list_all}
use Rattle.std.specs.Str.{all_ascii_digits}
use Rattle.num_row.specs.Decimals.{without_minus, is_decimal, decimal_value, decimal_number}
use Rattle.num_row.specs.Ints.{fits_i128, narrowed}
use Rattle.command_words.specs.Options.{is_number, is_between, number_in}

pub and_left : (a b : Bool) → (a && b) ≡ true → a ≡ true
and_left true b h = refl
and_left false b h = h

pub and_right : (a b : Bool) → (a && b) ≡ true → b ≡ true
and_right true b h = h
and_right false b h = absurd (let x : ⊥ = cc in x)

same_digits : (text : List ℕ) → list_all is_ascii_digit text ≡ all_ascii_digits text
same_digits [] = refl
same_digits (b ∷ bytes) = ap (λ rest. is_ascii_digit b && rest) (same_digits bytes)

pub decimal_digits : (text : List ℕ) → (nat_lt 0 (length (without_minus text)) && list_all is_ascii_digit (without_minus text)) ≡ is_decimal text
decimal_digits text = ap (λ all. nat_lt 0 (length (without_minus text)) && all) (same_digits (without_minus text))

-- ---- What is read

decimal_read : (text : List ℕ) → is_decimal text ≡ true → decimal_number text ≡ narrowed (decimal_value text)
unfolding decimal_number
decimal_read text e = rw e refl

read_as : (text : List ℕ) (r : Option ℤ) (fits : Bool) → fits_i128 (decimal_value text) ≡ fits → r ≡ (if fits then Some (decimal_value text) else None) → MatchOption r (fits_i128 (decimal_value text) ≡ false) (λ v. v ≡ decimal_value text)
read_as text None true e h = absurd (let x : ⊥ = cc in x)
read_as text None false e h = e
read_as text (Some v) true e h = cc
read_as text (Some v) false e h = absurd (let x : ⊥ = cc in x)

pub number_read : (text : List ℕ) (r : Option ℤ) → is_number text ≡ true → r ≡ decimal_number text → MatchOption r (fits_i128 (decimal_value text) ≡ false) (λ v. v ≡ decimal_value text)
unfolding narrowed
number_read text r d h = read_as text r (fits_i128 (decimal_value text)) refl (h ∙ decimal_read text (and_left (is_decimal text) (nat_le (length (without_minus text)) 20) d))

-- ---- Ranges

le_no : (a b : ℤ) → b <ℤ a → int_le a b ≡ false
le_no a b h = grind (arith, ints)

above : (n : ℕ) (g : ℤ) → 2 ^ 127 ≤ n → FitsSigned w64 g → int_le (pos n) g ≡ false
above n (pos m) h f = le_no (pos n) (pos m) (omega (arith, ints, f.sfits))
above n (negsuc m) h f = le_no (pos n) (negsuc m) (omega (arith, ints))

below : (n : ℕ) (g : ℤ) → 2 ^ 127 ≤ n → FitsSigned w64 g → int_le g (negsuc n) ≡ false
below n (pos m) h f = le_no (pos m) (negsuc n) (omega (arith, ints))
below n (negsuc m) h f = le_no (negsuc m) (negsuc n) (omega (arith, ints, f.sfits))

outside : (least most z : ℤ) → fits_i128 z ≡ false → FitsSigned w64 least → FitsSigned w64 most → is_between least most z ≡ false
outside least most (pos n) e l g = ap (λ b. int_le least (pos n) && b) (above n most (ltb-false n (2 ^ 127) e) g) ∙ and-false (int_le least (pos n))
outside least most (negsuc n) e l g = ap (λ b. b && int_le (negsuc n) most) (below n least (ltb-false n (2 ^ 127) e) l)

pub form_none : (least most : ℤ) (text : List ℕ) → is_number text ≡ false → None ≡ number_in least most text
form_none least most text e = rw e refl

pub range_none : (least most : ℤ) (text : List ℕ) → is_number text ≡ true → is_between least most (decimal_value text) ≡ false → None ≡ number_in least most text
range_none least most text e h = rw (e, h) refl

-- what doesn't fit lies outside each range of 64 bits
pub wide_none : (least most : ℤ) (text : List ℕ) → is_number text ≡ true → fits_i128 (decimal_value text) ≡ false → FitsSigned w64 least → FitsSigned w64 most → None ≡ number_in least most text
wide_none least most text n e l g = range_none least most text n (outside least most (decimal_value text) e l g)

pub range_some : (least most v : ℤ) (text : List ℕ) → is_number text ≡ true → v ≡ decimal_value text → is_between least most v ≡ true → Some v ≡ number_in least most text
range_some least most v text n e h = by_value h
  where
    by_value : is_between least most v ≡ true → Some v ≡ number_in least most text
    by_value i = rw (n, ← e, i) refl
