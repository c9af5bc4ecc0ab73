-- The value of an expression, taken only where each number that is reckoned with lies within 2 ^ 62.
use Rattle.std.specs.Prelude.{ℤ, pos, neg_ℤ, ◌+ℤ◌, ◌-ℤ◌, ◌*ℤ◌, int_lt, if◌then◌else◌, nat_lt, List, length, slice_index_or, Option, Some, None}
use Rattle.affine_expr.specs.declared.expr.Expr.{Expr, fold-Expr}
use Rattle.affine_expr.specs.declared.expr.Expr.TheOpen.{Expr-F}
use Rattle.affine_expr.specs.Value.{floor_div, ceil_div, floor_mod}
use Rattle.affine_expr.specs.Bounded.{◌>>=◌}
use Rattle.affine_expr.specs.Pure.{is_outside}

-- the number, where it is within the limits
unfoldable pub small : ℤ → Option ℤ
small z = if is_outside z then None else Some z

unfoldable pub small_one : (ℤ → ℤ) → ℤ → Option ℤ
small_one f x = do
  u ← small x
  Some (f u)

unfoldable pub small_two : (ℤ → ℤ → ℤ) → ℤ → ℤ → Option ℤ
small_two f x y = do
  u ← small x
  v ← small y
  Some (f u v)

-- by a positive divisor
unfoldable pub divided : (ℤ → ℤ → ℤ) → ℤ → ℤ → Option ℤ
divided f x y = if int_lt (pos 0) y then small_two f x y else None

abbrev pub guarded_step : List ℤ → List ℤ → Expr-F (Option ℤ) → Option ℤ
guarded_step ds ss (Expr-F.Dim n) = if nat_lt n (length ds) then Some (slice_index_or ds n (pos 0)) else None
guarded_step ds ss (Expr-F.Sym n) = if nat_lt n (length ss) then Some (slice_index_or ss n (pos 0)) else None
guarded_step ds ss (Expr-F.Const z) = Some z
guarded_step ds ss (Expr-F.Neg a) = do
  x ← a
  small_one neg_ℤ x
guarded_step ds ss (Expr-F.Add a b) = do
  x ← a
  y ← b
  small_two (λ u v. u +ℤ v) x y
guarded_step ds ss (Expr-F.Sub a b) = do
  x ← a
  y ← b
  small_two (λ u v. u -ℤ v) x y
guarded_step ds ss (Expr-F.Mul a b) = do
  x ← a
  y ← b
  small_two (λ u v. u *ℤ v) x y
guarded_step ds ss (Expr-F.FloorDiv a b) = do
  x ← a
  y ← b
  divided floor_div x y
guarded_step ds ss (Expr-F.CeilDiv a b) = do
  x ← a
  y ← b
  divided ceil_div x y
guarded_step ds ss (Expr-F.Mod a b) = do
  x ← a
  y ← b
  divided floor_mod x y

abbrev pub guarded : List ℤ → List ℤ → Expr → Option ℤ
guarded ds ss = fold-Expr (Option ℤ) (guarded_step ds ss)
