-- The interval of an expression whose parts all stay within 2 ^ 62, and the values that lie in intervals.
use Rattle.std.specs.Prelude.{◌≡◌, ℤ, ◌≤ℤ◌, true, if◌then◌else◌, ◌||◌, List, [], ◌∷◌, length, Option, Some, None, option_and_then, IsSome}
use Rattle.affine_expr.specs.declared.expr.Expr.{Expr, fold-Expr}
use Rattle.affine_expr.specs.declared.expr.Expr.TheOpen.{Expr-F}
use Rattle.affine_expr.specs.declared.map.Interval.{Interval}
use Rattle.affine_expr.specs.declared.map.Constraint.{Constraint}
use Rattle.affine_expr.specs.Spread.{Range, Spread, spread_step}
use Rattle.affine_expr.specs.Pure.{is_outside, is_pure, has_leaves_below}

-- for `do`: what comes next takes the value, and none stays none
infixl 10 ◌>>=◌
abbrev pub ◌>>=◌ : {A B : Type 0} → Option A → (A → Option B) → Option B
o >>= f = option_and_then f o

-- a spread, and none where an end of its range is outside
unfoldable pub limited : Spread → Option Spread
limited s = if is_outside s.range.least || is_outside s.range.greatest then None else Some s

-- one level: the spread of each part, and then that of the whole, must keep within the limits
abbrev pub bounded_step : List Range → List Range → Expr-F (Option Spread) → Option Spread
bounded_step ds ss (Expr-F.Dim n) = limited (spread_step ds ss (Expr-F.Dim n))
bounded_step ds ss (Expr-F.Sym n) = limited (spread_step ds ss (Expr-F.Sym n))
bounded_step ds ss (Expr-F.Const z) = limited (spread_step ds ss (Expr-F.Const z))
bounded_step ds ss (Expr-F.Neg x) = do
  a ← x
  limited (spread_step ds ss (Expr-F.Neg a))
bounded_step ds ss (Expr-F.Add x y) = do
  a ← x
  b ← y
  limited (spread_step ds ss (Expr-F.Add a b))
bounded_step ds ss (Expr-F.Sub x y) = do
  a ← x
  b ← y
  limited (spread_step ds ss (Expr-F.Sub a b))
bounded_step ds ss (Expr-F.Mul x y) = do
  a ← x
  b ← y
  limited (spread_step ds ss (Expr-F.Mul a b))
bounded_step ds ss (Expr-F.FloorDiv x y) = do
  a ← x
  b ← y
  limited (spread_step ds ss (Expr-F.FloorDiv a b))
bounded_step ds ss (Expr-F.CeilDiv x y) = do
  a ← x
  b ← y
  limited (spread_step ds ss (Expr-F.CeilDiv a b))
bounded_step ds ss (Expr-F.Mod x y) = do
  a ← x
  b ← y
  limited (spread_step ds ss (Expr-F.Mod a b))

-- the spread of an expression, and none exactly where the range of one of its parts, itself included, leaves the limits
unfoldable pub bounded : List Range → List Range → Expr → Option Spread
bounded ds ss = fold-Expr (Option Spread) (bounded_step ds ss)

-- intervals as ranges
abbrev pub range_at : Interval → Range
range_at i = record { least = i.least; greatest = i.greatest }

abbrev pub ranges : List Interval → List Range
ranges [] = []
ranges (i ∷ is) = range_at i ∷ ranges is

abbrev pub shown : Option Spread → Option Interval
shown None = None
shown (Some s) = Some (record { least = s.range.least; greatest = s.range.greatest })

-- the interval of an expression where its dimensions and symbols lie in these intervals, and none exactly where the
-- interval of one of its parts leaves -2 ^ 62 to 2 ^ 62
unfoldable pub interval_of : List Interval → List Interval → Expr → Option Interval
interval_of ds ss e = shown (bounded (ranges ds) (ranges ss) e)

-- a number lies in an interval
pub record IsIn (z : ℤ) (i : Interval) : Type 0 where
  pub low : i.least ≤ℤ z
  pub high : z ≤ℤ i.greatest

-- as many numbers as intervals, each in its own
abbrev pub AreIn : List ℤ → List Interval → Type 0
AreIn [] [] = Unit {0}
AreIn [] (i ∷ is) = ⊥
AreIn (z ∷ zs) [] = ⊥
AreIn (z ∷ zs) (i ∷ is) = IsIn z i × AreIn zs is

-- where there is an interval, the number lies in it
abbrev pub LiesIn : ℤ → Option Interval → Type 0
LiesIn z None = Unit {0}
LiesIn z (Some i) = IsIn z i

-- the numbers lie in some intervals for which the expression has an interval
pub record InReach (ds ss : List ℤ) (e : Expr) : Type 0 where
  pub dims : List Interval
  pub syms : List Interval
  pub dims_in : AreIn ds dims
  pub syms_in : AreIn ss syms
  pub reached : IsSome (interval_of dims syms e)

-- the expression may be evaluated at these numbers: it is pure, its leaves are among them, and they lie in reach
pub record Evaluable (ds ss : List ℤ) (e : Expr) : Type 0 where
  pub pure : is_pure e ≡ true
  pub leaves : has_leaves_below (length ds) (length ss) e ≡ true
  pub reach : InReach ds ss e

-- so may both sides of each constraint
abbrev pub AllEvaluable : List ℤ → List ℤ → List Constraint → Type 0
AllEvaluable ds ss [] = Unit {0}
AllEvaluable ds ss (row ∷ rows) = Evaluable ds ss row.left × Evaluable ds ss row.right × AllEvaluable ds ss rows
