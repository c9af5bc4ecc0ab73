-- The rules that are applied to a list of rows before an elimination, and after each of its steps.
use Rattle.std.specs.Prelude.{◌≡◌, ℕ, Bool, true, if◌then◌else◌, ◌&&◌, not, List, [], ◌∷◌, map, ℤ, pos, int_lt, unsigned_abs, int_div, fold}
use Rattle.std.specs.Int.{int_min}
use Rattle.std.specs.Ordering.{int_eq}
use lib.Pointwise.{pointwise}
use Rattle.num_row.specs.Divisors.{gcd_of}
use Rattle.constraint_set.specs.Lists.{Each}
use Rattle.constraint_set.specs.Points.{LinearRow}

abbrev pub all_zero : List ℤ → Bool
all_zero [] = true
all_zero (x ∷ xs) = int_eq x (pos 0) && all_zero xs

-- a row that says nothing: no coefficient but 0, and a constant of at least 0
abbrev pub is_idle : LinearRow → Bool
is_idle r = all_zero r.coefs && not (int_lt r.constant (pos 0))

-- the greatest common divisor of a number and the sizes of a list
abbrev pub divisor_from : ℕ → List ℤ → ℕ
divisor_from first xs = fold (λ g x. gcd_of g (unsigned_abs x)) first xs

-- the greatest common divisor of a row's coefficients and its constant
abbrev pub divisor : LinearRow → ℕ
divisor r = divisor_from (unsigned_abs r.constant) r.coefs

abbrev pub divided : ℕ → LinearRow → LinearRow
divided g r = record { coefs = map (λ x. int_div x (pos g)) r.coefs; constant = int_div r.constant (pos g) }

-- the rows that say something, each divided by its divisor
abbrev pub reduced : List LinearRow → List LinearRow
reduced [] = []
reduced (r ∷ rs) = if is_idle r then reduced rs else divided (divisor r) r ∷ reduced rs

-- whether two lists of coefficients are the same
abbrev pub same_coefs : List ℤ → List ℤ → Bool
same_coefs xs ys = pointwise int_eq xs ys

-- the rows with one more: where its coefficients are there, that place keeps the lesser constant, and else it goes last
abbrev pub added : List LinearRow → LinearRow → List LinearRow
added [] r = r ∷ []
added (s ∷ ss) r = if same_coefs r.coefs s.coefs then record { coefs = s.coefs; constant = int_min s.constant r.constant } ∷ ss else s ∷ added ss r

-- of rows with equal coefficients only the least constant, at the place of the first
abbrev pub merged : List LinearRow → List LinearRow → List LinearRow
merged kept [] = kept
merged kept (r ∷ rs) = merged (added kept r) rs

-- all rules: idle rows dropped, the others divided, and equal coefficients merged
unfoldable pub tidied : List LinearRow → List LinearRow
tidied rows = merged [] (reduced rows)

-- no two rows have the same coefficients
abbrev pub AreDistinct : List LinearRow → Type 0
AreDistinct [] = Unit {0}
AreDistinct (r ∷ rs) = Each (λ s. ¬ (s.coefs ≡ r.coefs)) rs × AreDistinct rs
