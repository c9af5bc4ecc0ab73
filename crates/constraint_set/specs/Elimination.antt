-- Plain elimination after Fourier and Motzkin: variables leave a list of rows one at a time, within stated limits.
use Rattle.std.specs.Prelude.{ℕ, zero, suc, ◌+◌, ◌*◌, ◌/◌, Bool, if◌then◌else◌, nat_lt, List, [], ◌∷◌, ◌++◌, length, filter, Option, Some, None, Result, Ok, Err, ℤ, pos, int_lt, unsigned_abs}
use Rattle.std.specs.Ordering.{int_eq}
use Rattle.num_row.specs.Ints.{narrowed, combined}
use Rattle.num_row.specs.Divisors.{gcd_of}
use Rattle.constraint_set.specs.Points.{LinearRow, LinearSystem, coef}
use Rattle.constraint_set.specs.Tidy.{tidied}

-- why there is no answer: a number isn't in 128 bits, or there are too many variables or rows
pub data Refusal : Type 0 where
  too_wide : Refusal
  too_many : Refusal

-- for `do`: what comes next takes the value, and a refusal stays
infixl 10 ◌>>=◌
abbrev pub ◌>>=◌ : {A B : Type 0} → Result A Refusal → (A → Result B Refusal) → Result B Refusal
Ok x >>= f = f x
Err e >>= f = Err e

-- too wide where there is no number
abbrev pub or_wide : {A : Type 0} → Option A → Result A Refusal
or_wide None = Err too_wide
or_wide (Some x) = Ok x

-- ---- the rows in which variable k has a positive, a negative and no coefficient, in order
abbrev pub is_raising : ℕ → LinearRow → Bool
is_raising k r = int_lt (pos 0) (coef k r)

abbrev pub is_lowering : ℕ → LinearRow → Bool
is_lowering k r = int_lt (coef k r) (pos 0)

abbrev pub is_flat : ℕ → LinearRow → Bool
is_flat k r = int_eq (coef k r) (pos 0)

abbrev pub raising : ℕ → List LinearRow → List LinearRow
raising k rows = filter (is_raising k) rows

abbrev pub lowering : ℕ → List LinearRow → List LinearRow
lowering k rows = filter (is_lowering k) rows

abbrev pub without : ℕ → List LinearRow → List LinearRow
without k rows = filter (is_flat k) rows

-- ---- the pair of a row p in which k has a positive coefficient and a row n in which it has a negative one
-- `a * xs + b * ys`; too wide where a product or a sum doesn't fit
abbrev pub mixed_by : ℤ → List ℤ → ℤ → List ℤ → Result (List ℤ) Refusal
mixed_by a [] b ys = Ok []
mixed_by a (x ∷ xs) b [] = Ok []
mixed_by a (x ∷ xs) b (y ∷ ys) = do
  number ← or_wide (combined a x b y)
  rest ← mixed_by a xs b ys
  Ok (number ∷ rest)

-- the divisor that the two coefficients share
abbrev pub shared : ℕ → LinearRow → LinearRow → ℕ
shared k p n = gcd_of (unsigned_abs (coef k p)) (unsigned_abs (coef k n))

-- the size of a coefficient by a divisor; too wide where it doesn't fit
abbrev pub factor : ℤ → ℕ → Result ℤ Refusal
factor x g = or_wide (narrowed (pos (unsigned_abs x / g)))

-- `(|n_k| / g) * p + (p_k / g) * n`, in which k has the coefficient 0
unfoldable pub pair_of : ℕ → LinearRow → LinearRow → Result LinearRow Refusal
pair_of k p n = do
  a ← factor (coef k n) (shared k p n)
  b ← factor (coef k p) (shared k p n)
  coefs ← mixed_by a p.coefs b n.coefs
  constant ← or_wide (combined a p.constant b n.constant)
  Ok (record { coefs = coefs; constant = constant })

-- the pairs of p with each row of a list, in order
abbrev pub pairs_with : ℕ → LinearRow → List LinearRow → Result (List LinearRow) Refusal
pairs_with k p [] = Ok []
pairs_with k p (n ∷ ns) = do
  row ← pair_of k p n
  rest ← pairs_with k p ns
  Ok (row ∷ rest)

-- the pairs of each row of the first list with each of the second
abbrev pub pairs_of : ℕ → List LinearRow → List LinearRow → Result (List LinearRow) Refusal
pairs_of k [] ns = Ok []
pairs_of k (p ∷ ps) ns = do
  first ← pairs_with k p ns
  rest ← pairs_of k ps ns
  Ok (first ++ rest)

-- ---- elimination
-- at most so many rows stand in a step, and so many variables in a system
abbrev pub row_limit : ℕ
row_limit = 2048

abbrev pub variable_limit : ℕ
variable_limit = 64

-- how many rows a step makes, before any is dropped
abbrev pub row_count : ℕ → List LinearRow → ℕ
row_count k rows = length (without k rows) + length (raising k rows) * length (lowering k rows)

-- the laws of elimination hold of any tidying that keeps the scaled points, so it is a parameter here
module _ (tidy : List LinearRow → List LinearRow) where
  -- variable k leaves the rows: those without it, and then all pairs
  abbrev pub step_by : ℕ → List LinearRow → Result (List LinearRow) Refusal
  step_by k rows = if nat_lt row_limit (row_count k rows) then Err too_many else (pairs_of k (raising k rows) (lowering k rows) >>= (λ pairs. Ok (tidy (without k rows ++ pairs))))

  -- variables leave in the order of their list
  abbrev pub steps_by : List ℕ → List LinearRow → Result (List LinearRow) Refusal
  steps_by [] rows = Ok rows
  steps_by (k ∷ ks) rows = step_by k rows >>= steps_by ks

unfoldable pub step : ℕ → List LinearRow → Result (List LinearRow) Refusal
step k rows = step_by tidied k rows

unfoldable pub steps : List ℕ → List LinearRow → Result (List LinearRow) Refusal
steps ks rows = steps_by tidied ks rows

-- the rows of a system once the variables of a list are eliminated in order
unfoldable pub eliminated : LinearSystem → List ℕ → Result (List LinearRow) Refusal
eliminated s ks = if nat_lt variable_limit s.vars then Err too_many else steps ks (tidied s.rows)

-- the numbers below n, from the last to the first
abbrev pub countdown : ℕ → List ℕ
countdown zero = []
countdown (suc n) = n ∷ countdown n
