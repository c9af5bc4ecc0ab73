-- Rows of linear constraints, systems of them, and the scaled points that meet them.
use Rattle.std.specs.Prelude.{◌≡◌, ℕ, Bool, true, ◌&&◌, not, List, [], ◌∷◌, length, Option, Some, ℤ, pos, ◌+ℤ◌, ◌*ℤ◌, ◌≤ℤ◌, ◌<ℤ◌, int_lt, slice_index_or}
use Rattle.num_row.specs.Ints.{narrowed, ◌>>=◌}
use Rattle.constraint_set.specs.Lists.{Each}

-- the inequality `coefs . x + constant >= 0`
pub record LinearRow : Type 0 where
  pub coefs : List ℤ
  pub constant : ℤ

-- rows over the variables 0 up to, and not including, `vars`, in order
pub record LinearSystem : Type 0 where
  pub vars : ℕ
  pub rows : List LinearRow

-- each row has n coefficients
abbrev pub AreWide : ℕ → List LinearRow → Type 0
AreWide n rows = Each (λ r. length r.coefs ≡ n) rows

-- the coefficient of variable k
abbrev pub coef : ℕ → LinearRow → ℤ
coef k r = slice_index_or r.coefs k (pos 0)

-- the sum of the products, over the shorter list
abbrev pub dot : List ℤ → List ℤ → ℤ
dot [] ps = pos 0
dot (a ∷ cs) [] = pos 0
dot (a ∷ cs) (p ∷ ps) = a *ℤ p +ℤ dot cs ps

-- `coefs . p + constant * q`
abbrev pub value_at : LinearRow → List ℤ → ℤ → ℤ
value_at r p q = dot r.coefs p +ℤ r.constant *ℤ q

-- the row holds at the rational point p/q, for q > 0
abbrev pub HoldsAtPoint : List ℤ → ℤ → LinearRow → Type 0
HoldsAtPoint p q r = pos 0 ≤ℤ value_at r p q

-- p and q are a scaled point of the rows: they stand for the rational point p/q, at which each row holds
abbrev pub IsPoint : List LinearRow → List ℤ → ℤ → Type 0
IsPoint rows p q = (pos 0 <ℤ q) × Each (HoldsAtPoint p q) rows

-- a scaled point of a system has a number for each variable
pub record PointOf (s : LinearSystem) (p : List ℤ) (q : ℤ) : Type 0 where
  pub as_long : length p ≡ s.vars
  pub point : IsPoint s.rows p q

-- ---- the test of a point in 128 bits
-- a sum so far, with the products added from the left; none where a product or a partial sum doesn't fit
abbrev pub dot_from : ℤ → List ℤ → List ℤ → Option ℤ
dot_from sum [] ps = Some sum
dot_from sum (a ∷ cs) [] = Some sum
dot_from sum (a ∷ cs) (p ∷ ps) = do
  product ← narrowed (a *ℤ p)
  more ← narrowed (sum +ℤ product)
  dot_from more cs ps

-- the value of a row, its constant's product added last
abbrev pub fitting_value : LinearRow → List ℤ → ℤ → Option ℤ
fitting_value r p q = do
  sum ← dot_from (pos 0) r.coefs p
  product ← narrowed (r.constant *ℤ q)
  narrowed (sum +ℤ product)

-- whether each row holds, and none where the value of some row doesn't fit
abbrev pub all_hold : List LinearRow → List ℤ → ℤ → Option Bool
all_hold [] p q = Some true
all_hold (r ∷ rs) p q = do
  value ← fitting_value r p q
  rest ← all_hold rs p q
  Some (not (int_lt value (pos 0)) && rest)
