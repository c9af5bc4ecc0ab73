-- Decimal texts: what `parse` reads, and what `to_string` writes.
use Rattle.std.proofs.Common.{◌≡◌, ℕ, zero, suc, ◌^◌, ◌<◌, ◌≤◌, ◌&&◌, List, [], ◌∷◌, length, get_or, drop, Bool, true, false, cond, Option, Some, None, Result, Ok, Err, ℤ, pos, negsuc, neg_ℤ, FitsSigned, refl, sym, ◌∙◌, ap, subst, arith}
use Rattle.std.specs.Prelude.{if◌then◌else◌, nat_lt, nat_eq, ◌≢◌}
use Rattle.std.specs.Int.{w128}
use Rattle.std.specs.List.{starts_with}
use Rattle.std.specs.Result.{result_ok}
use Rattle.std.specs.Char.{is_ascii_digit, digit_value}
use Rattle.std.specs.Str.{all_ascii_digits, IsAscii, IsUtf8}
use Rattle.std.specs.Str.Parse.{AllDigits, IsNumeral, digits_value, starts_with_minus, without_leading_sign, signed_digits_value, ParsesSigned}
use Rattle.std.specs.Fmt.{decimal, signed_decimal}
use Rattle.std.proofs.lemmas.Bool.{and_from, and_parts, and_right, lt-ltb, ltb-true}
use Rattle.std.proofs.lemmas.Bool.Decides.{nat_tests}
use Rattle.std.proofs.lemmas.Str.Parse.{digit_from_value, digit_at, without_leading_plus_none}
use Rattle.std.proofs.lemmas.Int.Digits.{digits_value-lt}
use Rattle.std.proofs.lemmas.List.{length-drop}
use Rattle.std.proofs.lemmas.Fmt.{decimal_is_IsNumeral_wide, length-decimal-le_wide, IsAscii-from_digits}
use Rattle.std.proofs.lemmas.Str.{IsUtf8-from_ascii}
use Rattle.num_row.specs.Ints.{narrowed}
use Rattle.num_row.specs.Decimals.{without_minus, is_decimal, decimal_value, decimal_number, IsShortestText}
use Rattle.num_row.proofs.Narrow.{narrowed_fits, narrowed_some}

-- the test of digits, and what it says
all_digits : (ds : List ℕ) → AllDigits 10 ds → all_ascii_digits ds ≡ true
all_digits [] h = refl
all_digits (d ∷ ds) h = let r = digit_from_value d h.0 in let more = all_digits ds h.1 in grind (arith, nat_tests)

digit : (d : ℕ) → is_ascii_digit d ≡ true → digit_value d < 10
digit d h = grind (arith, nat_tests)

from_digits : (ds : List ℕ) → all_ascii_digits ds ≡ true → AllDigits 10 ds
from_digits [] h = tt
from_digits (d ∷ ds) h = let p = and_parts _ _ h in (digit d p.0, from_digits ds p.1)

numeral : (ds : List ℕ) → IsNumeral 10 ds → (nat_lt 0 (length ds) && all_ascii_digits ds) ≡ true
numeral ds h = and_from _ _ (lt-ltb _ _ h.0) (all_digits ds h.1)

from_numeral : (ds : List ℕ) → (nat_lt 0 (length ds) && all_ascii_digits ds) ≡ true → IsNumeral 10 ds
from_numeral ds h = let p = and_parts _ _ h in (ltb-true _ _ p.0, from_digits ds p.1)

-- a numeral begins with a digit
no_minus : (ds : List ℕ) → IsNumeral 10 ds → starts_with_minus ds ≡ false
no_minus ds h = let d = digit_at ds 0 h.1 h.0 in grind (arith, nat_tests)

-- what is read where the digits are right, and where they aren't
pub number_read : (text : List ℕ) → IsNumeral 10 (without_minus text) → decimal_number text ≡ narrowed (decimal_value text)
unfolding decimal_number
number_read text h = let t = numeral (without_minus text) h in rw t

none_read : (text : List ℕ) → is_decimal text ≡ false → decimal_number text ≡ None
unfolding decimal_number
none_read text e = rw e

plain_number : (text : List ℕ) → starts_with_minus text ≡ false → IsNumeral 10 text → decimal_number text ≡ narrowed (pos (digits_value 10 text))
unfolding decimal_number
plain_number text e h = let t = numeral text h in rw (e, t)

-- a text that is read writes the number
pub number_written : (text : List ℕ) (z : ℤ) → decimal_number text ≡ Some z → IsNumeral 10 (without_minus text) × (decimal_value text ≡ z) × FitsSigned w128 z
unfolding decimal_number
number_written text z h = written (is_decimal text) refl h
  where
    written : (b : Bool) → is_decimal text ≡ b → (if b then narrowed (decimal_value text) else None) ≡ Some z → IsNumeral 10 (without_minus text) × (decimal_value text ≡ z) × FitsSigned w128 z
    written true e h = let p = narrowed_some (decimal_value text) z h in (from_numeral (without_minus text) e, p.0, p.1)
    written false e h = absurd (let x : ⊥ = cc in x)

-- the texts of numbers that aren't negative, and of those that are
fits_digits : (n : ℕ) → FitsSigned w128 (pos n) → n < 10 ^ 64
fits_digits n f = omega (arith, f.sfits)

plain_read : (n : ℕ) → FitsSigned w128 (pos n) → decimal_number (decimal n) ≡ Some (pos n)
plain_read n f =
    let d = decimal_is_IsNumeral_wide n (fits_digits n f) in
    plain_number (decimal n) (no_minus (decimal n) d.0) d.0 ∙ ap (λ m. narrowed (pos m)) d.1 ∙ narrowed_fits (pos n) f

negative_digits : (n : ℕ) → FitsSigned w128 (negsuc n) → suc n < 10 ^ 64
negative_digits n f = omega (arith, f.sfits)

minus_read : (n : ℕ) → FitsSigned w128 (negsuc n) → decimal_number (45 ∷ decimal (suc n)) ≡ Some (negsuc n)
minus_read n f =
    let d = decimal_is_IsNumeral_wide (suc n) (negative_digits n f) in
    number_read (45 ∷ decimal (suc n)) d.0 ∙ ap (λ m. narrowed (neg_ℤ (pos m))) d.1 ∙ narrowed_fits (negsuc n) f

-- k digits write no number whose text is longer; `-` and k digits neither
plain_length : (k m : ℕ) (z : ℤ) → 0 < k → m < 10 ^ k → pos m ≡ z → FitsSigned w128 z → length (signed_decimal z) ≤ k
plain_length k m (pos n) p l e f = let s : m ≡ n = cc in length-decimal-le_wide k n p (omega arith) (fits_digits n f)
plain_length k m (negsuc n) p l e f = absurd (let x : ⊥ = cc in x)

minus_length : (k m : ℕ) (z : ℤ) → 0 < k → m < 10 ^ k → neg_ℤ (pos m) ≡ z → FitsSigned w128 z → length (signed_decimal z) ≤ suc k
minus_length k zero z p l e f = let short = plain_length k 0 z p l e f in omega arith
minus_length k (suc m) (pos n) p l e f = absurd (let x : ⊥ = cc in x)
minus_length k (suc m) (negsuc n) p l e f =
    let s : m ≡ n = cc in
    let short = length-decimal-le_wide k (suc n) p (omega arith) (negative_digits n f) in
    omega arith

behind_minus : (text : List ℕ) → 0 < length (drop 1 text) → suc (length (drop 1 text)) ≡ length text
behind_minus text p = let e = length-drop 1 text in omega arith

-- a text isn't shorter than the text of what it writes
no_shorter : (text : List ℕ) (z : ℤ) (m : Bool) → IsNumeral 10 (if m then drop 1 text else text) → (if m then neg_ℤ (pos (digits_value 10 (if m then drop 1 text else text))) else pos (digits_value 10 (if m then drop 1 text else text))) ≡ z → FitsSigned w128 z → length (signed_decimal z) ≤ length text
no_shorter text z false h v f = plain_length (length text) (digits_value 10 text) z h.0 (digits_value-lt 10 text h.1) v f
no_shorter text z true h v f =
    let short = minus_length (length (drop 1 text)) (digits_value 10 (drop 1 text)) z h.0 (digits_value-lt 10 (drop 1 text) h.1) v f in
    let e = behind_minus text h.0 in
    omega arith

least_of : (z : ℤ) (other : List ℕ) → decimal_number other ≡ Some z → length (signed_decimal z) ≤ length other
least_of z other h = let w = number_written other z h in no_shorter other z (starts_with_minus other) w.0 w.1 w.2

-- what `to_string` writes is the shortest text of its number
pub shortest : (z : ℤ) → FitsSigned w128 z → IsShortestText z (signed_decimal z)
shortest (pos n) f = record { read = plain_read n f; least = least_of (pos n) }
shortest (negsuc n) f = record { read = minus_read n f; least = least_of (negsuc n) }

-- ---- what `read_decimal` asks of a text before it lets `parse` read it
-- `parse` would take a `+`
pub plus_refused : (text : List ℕ) → starts_with nat_eq text (43 ∷ []) ≡ true → decimal_number text ≡ None
plus_refused [] h = absurd (let x : ⊥ = cc in x)
plus_refused (c ∷ cs) h = let e : c ≡ 43 = grind (arith, nat_tests) in none_read (c ∷ cs) (rw e (and_right _ _ refl))

pub no_plus : (text : List ℕ) → starts_with nat_eq text (43 ∷ []) ≡ false → get_or text 0 0 ≢ 43
no_plus [] h = λ e. omega arith
no_plus (c ∷ cs) h = λ e. grind (arith, nat_tests)

-- decimal texts are ASCII
minus_ascii : (text : List ℕ) → starts_with_minus text ≡ true → IsAscii (drop 1 text) → IsAscii text
minus_ascii text e h zero = grind (arith, nat_tests)
minus_ascii [] e h (suc i) = absurd (let x : ⊥ = cc in x)
minus_ascii (c ∷ cs) e h (suc i) = h i

ascii : (text : List ℕ) (m : Bool) → starts_with_minus text ≡ m → IsNumeral 10 (if m then drop 1 text else text) → IsAscii text
ascii text false e h = IsAscii-from_digits text h.1
ascii text true e h = minus_ascii text e (IsAscii-from_digits (drop 1 text) h.1)

pub text_needed : (text : List ℕ) → ¬ (IsUtf8 text) → decimal_number text ≡ None
text_needed text n = cases (decimal_number text) refl
  where
    cases : (o : Option ℤ) → decimal_number text ≡ o → o ≡ None
    cases None e = refl
    cases (Some z) e = absurd (n (IsUtf8-from_ascii text (ascii text (starts_with_minus text) refl (number_written text z e).0)))

-- where no `+` stands first, `parse` reads as this crate does
same_digits : (text : List ℕ) → get_or text 0 0 ≢ 43 → without_leading_sign text ≡ without_minus text
same_digits text n = ap (λ ds. cond (starts_with_minus text) (drop 1 text) ds) (without_leading_plus_none text n)

same_value : (text : List ℕ) → get_or text 0 0 ≢ 43 → signed_digits_value 10 text ≡ decimal_value text
same_value text n = ap (λ ds. cond (starts_with_minus text) (neg_ℤ (pos (digits_value 10 ds))) (pos (digits_value 10 ds))) (same_digits text n)

pub parsed : {E : Type 0} (text : List ℕ) (r : Result ℤ E) → get_or text 0 0 ≢ 43 → ParsesSigned w128 10 text r → result_ok r ≡ decimal_number text
parsed text (Ok x) n h =
    let d = subst (λ ds. IsNumeral 10 ds) (same_digits text n) h.0.0 in
    let v = same_value text n in
    let f = subst (λ z. FitsSigned w128 z) v h.0.1 in
    sym (number_read text d ∙ narrowed_fits (decimal_value text) f ∙ ap Some (sym v ∙ sym h.1))
parsed text (Err e) n h = refused (decimal_number text) refl
  where
    refused : (o : Option ℤ) → decimal_number text ≡ o → None ≡ o
    refused None q = refl
    refused (Some z) q =
        let w = number_written text z q in
        let v : signed_digits_value 10 text ≡ z = same_value text n ∙ w.1 in
        absurd (h (subst (λ ds. IsNumeral 10 ds) (sym (same_digits text n)) w.0, subst (λ y. FitsSigned w128 y) (sym v) w.2))
