-- How far a form reaches over the scaled points of a system, and whether a system has any.
use Rattle.std.specs.Prelude.{◌≡◌, suc, ◌+◌, Bool, false, if◌then◌else◌, ◌||◌, nat_lt, List, [], ◌∷◌, ◌++◌, map, Result, Ok, Err, ℤ, pos, neg_ℤ, ◌*ℤ◌, ◌≤ℤ◌, int_lt}
use Rattle.std.specs.List.{reduce}
use Rattle.std.specs.Int.{int_div_euclid, int_max, int_min}
use Rattle.num_row.specs.Ints.{narrowed}
use Rattle.constraint_set.specs.Points.{LinearRow, LinearSystem, coef, value_at, PointOf}
use Rattle.constraint_set.specs.Tidy.{tidied}
use Rattle.constraint_set.specs.Elimination.{Refusal, too_many, ◌>>=◌, or_wide, raising, lowering, step, steps, eliminated, variable_limit, countdown}

-- ---- what is asked: facts of the scaled points alone
abbrev pub HasNoPoint : LinearSystem → Type 0
HasNoPoint s = (p : List ℤ) (q : ℤ) → ¬ PointOf s p q

-- some scaled point
abbrev pub HasPoint : LinearSystem → Type 0
HasPoint s = (p : List ℤ) × ((q : ℤ) × PointOf s p q)

-- k is the least integer for which some scaled point has `form <= k`
pub record IsLeast (s : LinearSystem) (form : LinearRow) (k : ℤ) : Type 0 where
  pub p : List ℤ
  pub q : ℤ
  pub found : PointOf s p q
  pub reached : value_at form p q ≤ℤ (k *ℤ q)
  pub least : (j : ℤ) (x : List ℤ) (y : ℤ) → PointOf s x y → value_at form x y ≤ℤ (j *ℤ y) → k ≤ℤ j

-- k is the greatest integer for which some scaled point has `form >= k`
pub record IsGreatest (s : LinearSystem) (form : LinearRow) (k : ℤ) : Type 0 where
  pub p : List ℤ
  pub q : ℤ
  pub found : PointOf s p q
  pub reached : (k *ℤ q) ≤ℤ value_at form p q
  pub greatest : (j : ℤ) (x : List ℤ) (y : ℤ) → PointOf s x y → (j *ℤ y) ≤ℤ value_at form x y → j ≤ℤ k

-- the form lies between two integers at all scaled points; where there are none, any two will do
pub record IsBounded (s : LinearSystem) (form : LinearRow) : Type 0 where
  pub low : ℤ
  pub high : ℤ
  pub above : (p : List ℤ) (q : ℤ) → PointOf s p q → (low *ℤ q) ≤ℤ value_at form p q
  pub below : (p : List ℤ) (q : ℤ) → PointOf s p q → value_at form p q ≤ℤ (high *ℤ q)

-- ---- how it is answered: by elimination
-- whether some row has a negative constant
abbrev pub has_negative : List LinearRow → Bool
has_negative [] = false
has_negative (r ∷ rs) = int_lt r.constant (pos 0) || has_negative rs

-- whether a system has no scaled point: all variables are eliminated, from the last to the first
unfoldable pub emptiness : LinearSystem → Result Bool Refusal
emptiness s = eliminated s (countdown s.vars) >>= (λ rows. Ok (has_negative rows))

-- a row behind a new variable, put before all others, that it doesn't name
abbrev pub behind : LinearRow → LinearRow
behind r = record { coefs = pos 0 ∷ r.coefs; constant = r.constant }

-- the row `v - form >= 0` of the new variable v, from the negated numbers of the form
abbrev pub at_least : List ℤ → ℤ → LinearRow
at_least coefs constant = record { coefs = pos 1 ∷ coefs; constant = constant }

-- the row `form - v >= 0`
abbrev pub at_most : LinearRow → LinearRow
at_most form = record { coefs = neg_ℤ (pos 1) ∷ form.coefs; constant = form.constant }

-- the negated numbers of a list; too wide where one doesn't fit
abbrev pub negated : List ℤ → Result (List ℤ) Refusal
negated [] = Ok []
negated (x ∷ xs) = do
  first ← or_wide (narrowed (neg_ℤ x))
  rest ← negated xs
  Ok (first ∷ rest)

-- the rows of a system and, behind them, the two that make v the value of the form
unfoldable pub valued : LinearSystem → LinearRow → Result (List LinearRow) Refusal
valued s form = do
  coefs ← negated form.coefs
  constant ← or_wide (narrowed (neg_ℤ form.constant))
  Ok (map behind s.rows ++ at_least coefs constant ∷ at_most form ∷ [])

-- the rounded-up lower bound of v in a row in which its coefficient is positive
abbrev pub lower_bound : LinearRow → ℤ
lower_bound r = neg_ℤ (int_div_euclid r.constant (coef 0 r))

-- the rounded-down upper bound of v in a row in which its coefficient is negative
abbrev pub upper_bound : LinearRow → ℤ
upper_bound r = int_div_euclid r.constant (neg_ℤ (coef 0 r))

-- the bounds of rows; too wide where one doesn't fit
abbrev pub bounds_by : (LinearRow → ℤ) → List LinearRow → Result (List ℤ) Refusal
bounds_by bound [] = Ok []
bounds_by bound (r ∷ rs) = do
  first ← or_wide (narrowed (bound r))
  rest ← bounds_by bound rs
  Ok (first ∷ rest)

-- the greatest lower bound and the least upper bound of v. Where the form is bounded there are both
unfoldable pub greatest_lower : List LinearRow → Result ℤ Refusal
greatest_lower rows = do
  bounds ← bounds_by lower_bound (raising 0 rows)
  or_wide (reduce int_max bounds)

unfoldable pub least_upper : List LinearRow → Result ℤ Refusal
least_upper rows = do
  bounds ← bounds_by upper_bound (lowering 0 rows)
  or_wide (reduce int_min bounds)

-- the reach of a form
pub data Reach : Type 0 where
  never : Reach
  between : ℤ → ℤ → Reach

-- all variables but v are eliminated, from the last to the first; a negative constant once v is eliminated too says never
unfoldable pub reach_of : LinearSystem → LinearRow → Result Reach Refusal
reach_of s form = if nat_lt variable_limit (s.vars + 1) then Err too_many else (do
  both ← valued s form
  rows ← steps (map suc (countdown s.vars)) (tidied both)
  last ← step 0 rows
  if has_negative last then Ok never else (do
    least ← greatest_lower rows
    greatest ← least_upper rows
    Ok (between least greatest)))

-- ---- what the answer says
-- where there is no scaled point the answer is never, and else it is the least and the greatest integer
abbrev pub TellsReach : LinearSystem → LinearRow → Reach → Type 0
TellsReach s form never = HasNoPoint s
TellsReach s form (between least greatest) = IsLeast s form least × IsGreatest s form greatest

-- where the form is bounded and there are scaled points, v has a lower and an upper bound
abbrev pub HasBounds : LinearSystem → LinearRow → Type 0
HasBounds s form = (both rows last : List LinearRow) → valued s form ≡ Ok both → steps (map suc (countdown s.vars)) (tidied both) ≡ Ok rows → step 0 rows ≡ Ok last
    → has_negative last ≡ false → ¬ (raising 0 rows ≡ []) × ¬ (lowering 0 rows ≡ [])
