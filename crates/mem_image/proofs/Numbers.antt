-- The texts of numbers, and what they write.
use Rattle.std.proofs.Common.{◌≡◌, ℕ, ◌+◌, ◌*◌, ◌^◌, ◌≤◌, min, suc, zero, ◌<◌, drop, get_or, List, [], ◌∷◌, ◌&&◌, length, Bool, true, false, Option, Some, None, ℤ, pos, negsuc, refl, sym, ◌∙◌, ap, arith, ◌++◌, ◌<ℤ◌, mul-suc, mul-zero, mul_assoc, le_trans, FitsSigned, MatchOption}
use Rattle.std.proofs.lemmas.Int.{ints}
use Rattle.std.proofs.lemmas.Bool.{ltb-false}
use Rattle.std.proofs.Math.Bool.{and-false}
use Rattle.std.proofs.lemmas.List.{append_assoc}
use Rattle.std.specs.Prelude.{int_le, nat_lt, nat_le, if◌then◌else◌}
use Rattle.std.specs.Char.{is_ascii_digit}
use Rattle.std.specs.List.{list_all}
use Rattle.std.specs.Str.{all_ascii_digits}
use Rattle.num_row.specs.Decimals.{without_minus, is_decimal, decimal_value, decimal_number}
use Rattle.std.specs.Int.{w64}
use Rattle.num_row.specs.Ints.{fits_i128, narrowed}
use Rattle.affine_ast.specs.Sizes.{product}
use Rattle.std.proofs.lemmas.Bool.Decides.{nat_tests}
use Rattle.std.proofs.Math.Numerals.{add-one}
use Rattle.std.proofs.Math.Seq.{drop-cons}
use Rattle.affine_expr.specs.declared.map.Interval.{Interval}
use Rattle.mem_image.specs.Forms.{is_digits, is_between, are_between}

pub and_left : (a b : Bool) → (a && b) ≡ true → a ≡ true
and_left true b h = refl
and_left false b h = h

pub and_right : (a b : Bool) → (a && b) ≡ true → b ≡ true
and_right true b h = h
and_right false b h = absurd (let x : ⊥ = cc in x)

pub true_no : true ≡ false → ⊥
true_no h = let x : ⊥ = cc in x

same_digits : (text : List ℕ) → list_all is_ascii_digit text ≡ all_ascii_digits text
same_digits [] = refl
same_digits (b ∷ bytes) = ap (λ rest. is_ascii_digit b && rest) (same_digits bytes)

pub decimal_digits : (text : List ℕ) → is_digits (without_minus text) ≡ is_decimal text
decimal_digits text = ap (λ all. nat_lt 0 (length (without_minus text)) && all) (same_digits (without_minus text))

-- what `read_decimal` gives for a number
pub number_of : (text : List ℕ) → is_decimal text ≡ true → decimal_number text ≡ narrowed (decimal_value text)
unfolding decimal_number
number_of text e = rw e refl

-- ---- Lists of numbers

pub first_decimal : (line rest : List (List ℕ)) (word : List ℕ) → line ≡ word ∷ rest → list_all is_decimal line ≡ true → is_decimal word ≡ true
first_decimal line rest word e h = and_left (is_decimal word) (list_all is_decimal rest) (ap (list_all is_decimal) (sym e) ∙ h)

pub rest_decimal : (line rest : List (List ℕ)) (word : List ℕ) → line ≡ word ∷ rest → list_all is_decimal line ≡ true → list_all is_decimal rest ≡ true
rest_decimal line rest word e h = and_right (is_decimal word) (list_all is_decimal rest) (ap (list_all is_decimal) (sym e) ∙ h)

between_cons : (range : Interval) (line rest : List (List ℕ)) (word : List ℕ) → line ≡ word ∷ rest → are_between range line ≡ (is_between range (decimal_value word) && are_between range rest)
unfolding are_between
between_cons range line rest word e = ap (are_between range) e

pub first_outside : (range : Interval) (line rest : List (List ℕ)) (word : List ℕ) → line ≡ word ∷ rest → is_between range (decimal_value word) ≡ false → are_between range line ≡ false
first_outside range line rest word e h = between_cons range line rest word e ∙ ap (λ b. b && are_between range rest) h

pub first_inside : (range : Interval) (line rest : List (List ℕ)) (word : List ℕ) → line ≡ word ∷ rest → is_between range (decimal_value word) ≡ true → are_between range line ≡ are_between range rest
first_inside range line rest word e h = between_cons range line rest word e ∙ ap (λ b. b && are_between range rest) h

pub none_between : (range : Interval) → are_between range [] ≡ true
unfolding are_between
none_between range = refl

pub first_between : (range : Interval) (line rest : List (List ℕ)) (word : List ℕ) → line ≡ word ∷ rest → are_between range line ≡ true → is_between range (decimal_value word) ≡ true
first_between range line rest word e h = and_left (is_between range (decimal_value word)) (are_between range rest) (sym (between_cons range line rest word e) ∙ h)

pub rest_between : (range : Interval) (line rest : List (List ℕ)) (word : List ℕ) → line ≡ word ∷ rest → are_between range line ≡ true → are_between range rest ≡ true
rest_between range line rest word e h = and_right (is_between range (decimal_value word)) (are_between range rest) (sym (between_cons range line rest word e) ∙ h)

-- ---- Products that stop at a limit

min_left : (a b : ℕ) → a ≤ b → min a b ≡ a
min_left a b h = omega arith

min_right : (a b : ℕ) → b ≤ a → min a b ≡ b
min_right a b h = omega arith

at_least : (a q : ℕ) → a ≤ a * suc q
at_least a q = omega (arith, mul-suc a q)

stops : (x q limit : ℕ) (below : Bool) → nat_le x limit ≡ below → min (min x limit * suc q) limit ≡ min (x * suc q) limit
stops x q limit true e = let h : x ≤ limit = grind (arith, nat_tests) in ap (λ n. min (n * suc q) limit) (min_left x limit h)
stops x q limit false e =
    let h : limit ≤ x = grind (arith, nat_tests) in
    ap (λ n. min (n * suc q) limit) (min_right x limit h) ∙ min_right (limit * suc q) limit (at_least limit q) ∙ sym (min_right (x * suc q) limit (le_trans h (at_least x q)))

pub product_stops : (x p limit : ℕ) → min (min x limit * p) limit ≡ min (x * p) limit
product_stops x zero limit = ap (λ n. min n limit) (mul-zero (min x limit) ∙ sym (mul-zero x))
product_stops x (suc q) limit = stops x q limit (nat_le x limit) refl

pub product_step : (count limit : ℕ) (sizes : List ℕ) (i next : ℕ) → i < length sizes → next ≡ min (count * get_or sizes i 0) limit → min (count * product (drop i sizes)) limit ≡ min (next * product (drop (i + 1) sizes)) limit
product_step count limit sizes i next h e =
    rw (e, drop-cons sizes i 0 h, add-one) (ap (λ n. min n limit) (sym (mul_assoc count (get_or sizes i 0) (product (drop (suc i) sizes)))) ∙ sym (product_stops (count * get_or sizes i 0) (product (drop (suc i) sizes)) limit))

-- ---- What is read

read_as : (text : List ℕ) (r : Option ℤ) (fits : Bool) → fits_i128 (decimal_value text) ≡ fits → r ≡ (if fits then Some (decimal_value text) else None) → MatchOption r (fits_i128 (decimal_value text) ≡ false) (λ v. v ≡ decimal_value text)
read_as text None true e h = absurd (let x : ⊥ = cc in x)
read_as text None false e h = e
read_as text (Some v) true e h = cc
read_as text (Some v) false e h = absurd (let x : ⊥ = cc in x)

pub number_read : (text : List ℕ) (r : Option ℤ) → is_decimal text ≡ true → r ≡ decimal_number text → MatchOption r (fits_i128 (decimal_value text) ≡ false) (λ v. v ≡ decimal_value text)
unfolding narrowed
number_read text r d h = read_as text r (fits_i128 (decimal_value text)) refl (h ∙ number_of text d)

le_no : (a b : ℤ) → b <ℤ a → int_le a b ≡ false
le_no a b h = grind (arith, ints)

above : (n : ℕ) (g : ℤ) → 2 ^ 127 ≤ n → FitsSigned w64 g → int_le (pos n) g ≡ false
above n (pos m) h f = le_no (pos n) (pos m) (omega (arith, ints, f.sfits))
above n (negsuc m) h f = le_no (pos n) (negsuc m) (omega (arith, ints))

below : (n : ℕ) (g : ℤ) → 2 ^ 127 ≤ n → FitsSigned w64 g → int_le g (negsuc n) ≡ false
below n (pos m) h f = le_no (pos m) (negsuc n) (omega (arith, ints))
below n (negsuc m) h f = le_no (negsuc m) (negsuc n) (omega (arith, ints, f.sfits))

-- what doesn't fit lies outside each range of 64 bits
pub wide_outside : (range : Interval) (z : ℤ) → fits_i128 z ≡ false → FitsSigned w64 range.least → FitsSigned w64 range.greatest → is_between range z ≡ false
wide_outside range (pos n) e l g = ap (λ b. int_le range.least (pos n) && b) (above n range.greatest (ltb-false n (2 ^ 127) e) g) ∙ and-false (int_le range.least (pos n))
wide_outside range (negsuc n) e l g = ap (λ b. b && int_le (negsuc n) range.greatest) (below n range.least (ltb-false n (2 ^ 127) e) l)

pub pushed : (before after rest : List ℤ) (z : ℤ) → after ≡ before ++ z ∷ [] → before ++ z ∷ rest ≡ after ++ rest
pushed before after rest z e = rw e (sym (append_assoc before (z ∷ []) rest))
