-- The spread of an expression as it is found level by level in numbers of 64 bits, and none where a number is outside
-- 2 ^ 62 or the expression isn't pure.
use Rattle.std.specs.Prelude.{ℤ, pos, ◌*ℤ◌, int_lt, if◌then◌else◌, List, [], slice_get, Option, Some, None}
use Rattle.affine_expr.specs.declared.expr.Expr.{Expr, fold-Expr}
use Rattle.affine_expr.specs.declared.expr.Expr.TheOpen.{Expr-F}
use Rattle.affine_expr.specs.declared.map.Interval.{Interval}
use Rattle.affine_expr.specs.declared.interval.Span.{Span}
use Rattle.affine_expr.specs.Spread.{Spread, spread_step, both_fixed, scaled as scaled_range}
use Rattle.affine_expr.specs.Bounded.{◌>>=◌}
use Rattle.affine_expr.specs.Guarded.{small}

-- a span as a spread
abbrev pub spread_of : Span → Spread
spread_of s = record { range = record { least = s.least; greatest = s.greatest }; fixed = s.fixed }

abbrev pub small_fixed : Option ℤ → Option (Option ℤ)
small_fixed None = Some None
small_fixed (Some v) = do
  x ← small v
  Some (Some x)

-- a spread as a span, where all its numbers are within the limits
unfoldable pub spanned : ℤ → ℤ → Option ℤ → Option Span
spanned least greatest fixed = do
  l ← small least
  g ← small greatest
  f ← small_fixed fixed
  Some (record { least = l; greatest = g; fixed = f })

abbrev pub span_at : Spread → Option Span
span_at s = spanned s.range.least s.range.greatest s.fixed

unfoldable pub negated : Span → Option Span
negated r = span_at (spread_step [] [] (Expr-F.Neg (spread_of r)))

unfoldable pub added : Span → Span → Option Span
added r s = span_at (spread_step [] [] (Expr-F.Add (spread_of r) (spread_of s)))

unfoldable pub taken : Span → Span → Option Span
taken r s = span_at (spread_step [] [] (Expr-F.Sub (spread_of r) (spread_of s)))

-- times a number, with the value of the product where it is known
unfoldable pub scaled : Span → ℤ → Option ℤ → Option Span
scaled r k fixed = span_at (record { range = scaled_range (spread_of r).range k; fixed = fixed })

abbrev pub times_by : Span → Span → Option ℤ → Option ℤ → Option ℤ → Option Span
times_by r s x (Some c) fixed = scaled r c fixed
times_by r s (Some c) None fixed = scaled s c fixed
times_by r s None None fixed = None

-- a product, one side of which is known: the right one where both are
unfoldable pub times : Span → Span → Option Span
times r s = times_by r s r.fixed s.fixed (both_fixed (λ x y. x *ℤ y) r.fixed s.fixed)

abbrev pub by_divisor : Option Span → Option ℤ → Option Span
by_divisor o None = None
by_divisor o (Some c) = if int_lt (pos 0) c then o else None

-- a division, whose divisor is known and positive
unfoldable pub floored : Span → Span → Option Span
floored r s = by_divisor (span_at (spread_step [] [] (Expr-F.FloorDiv (spread_of r) (spread_of s)))) s.fixed

unfoldable pub ceiled : Span → Span → Option Span
ceiled r s = by_divisor (span_at (spread_step [] [] (Expr-F.CeilDiv (spread_of r) (spread_of s)))) s.fixed

unfoldable pub reduced : Span → Span → Option Span
reduced r s = by_divisor (span_at (spread_step [] [] (Expr-F.Mod (spread_of r) (spread_of s)))) s.fixed

abbrev pub leaf : Option Interval → Option Span
leaf None = None
leaf (Some i) = spanned i.least i.greatest None

abbrev pub span_step : List Interval → List Interval → Expr-F (Option Span) → Option Span
span_step ds ss (Expr-F.Dim n) = leaf (slice_get ds n)
span_step ds ss (Expr-F.Sym n) = leaf (slice_get ss n)
span_step ds ss (Expr-F.Const z) = spanned z z (Some z)
span_step ds ss (Expr-F.Neg a) = do
  r ← a
  negated r
span_step ds ss (Expr-F.Add a b) = do
  r ← a
  s ← b
  added r s
span_step ds ss (Expr-F.Sub a b) = do
  r ← a
  s ← b
  taken r s
span_step ds ss (Expr-F.Mul a b) = do
  r ← a
  s ← b
  times r s
span_step ds ss (Expr-F.FloorDiv a b) = do
  r ← a
  s ← b
  floored r s
span_step ds ss (Expr-F.CeilDiv a b) = do
  r ← a
  s ← b
  ceiled r s
span_step ds ss (Expr-F.Mod a b) = do
  r ← a
  s ← b
  reduced r s

abbrev pub span_of : List Interval → List Interval → Expr → Option Span
span_of ds ss = fold-Expr (Option Span) (span_step ds ss)

abbrev pub interval_at : Option Span → Option Interval
interval_at None = None
interval_at (Some s) = Some (record { least = s.least; greatest = s.greatest })
