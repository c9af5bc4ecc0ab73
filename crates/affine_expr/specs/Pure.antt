-- Pure affine expressions: what a product and a division may stand on.
use Rattle.std.specs.Prelude.{ℕ, ◌^◌, ℤ, pos, neg_ℤ, ◌+ℤ◌, ◌-ℤ◌, ◌*ℤ◌, Bool, true, false, ◌&&◌, ◌||◌, not, nat_lt, int_lt, Option, Some, None, is_some}
use Rattle.affine_expr.specs.declared.expr.Expr.{Expr, fold-Expr}
use Rattle.affine_expr.specs.declared.expr.Expr.TheOpen.{Expr-F}
use Rattle.affine_expr.specs.Value.{floor_div, ceil_div, floor_mod}
use Rattle.affine_expr.specs.Spread.{both_fixed, one_fixed}

-- outside -2 ^ 62 to 2 ^ 62
abbrev pub is_outside : ℤ → Bool
is_outside z = int_lt z (neg_ℤ (pos (2 ^ 62))) || int_lt (pos (2 ^ 62)) z

-- a value within these limits, if there is one
abbrev pub is_small : Option ℤ → Bool
is_small None = true
is_small (Some z) = not (is_outside z)

-- an expression's value where it has no dimension and no symbol, whether the expression is pure, and whether each such
-- value of a part is within the limits
pub record Purity : Type 0 where
  pub fixed : Option ℤ
  pub pure : Bool
  pub small : Bool

abbrev pub purity_at : Option ℤ → Bool → Bool → Purity
purity_at fixed pure small = record { fixed = fixed; pure = pure; small = small && is_small fixed }

-- a value that is known, and positive
abbrev pub is_positive : Option ℤ → Bool
is_positive None = false
is_positive (Some c) = int_lt (pos 0) c

-- one level: one side of a product has no dimension and no symbol; a divisor has none, and is positive
abbrev pub purity_step : Expr-F Purity → Purity
purity_step (Expr-F.Dim n) = purity_at None true true
purity_step (Expr-F.Sym n) = purity_at None true true
purity_step (Expr-F.Const z) = purity_at (Some z) true true
purity_step (Expr-F.Neg a) = purity_at (one_fixed neg_ℤ a.fixed) a.pure a.small
purity_step (Expr-F.Add a b) = purity_at (both_fixed (λ x y. x +ℤ y) a.fixed b.fixed) (a.pure && b.pure) (a.small && b.small)
purity_step (Expr-F.Sub a b) = purity_at (both_fixed (λ x y. x -ℤ y) a.fixed b.fixed) (a.pure && b.pure) (a.small && b.small)
purity_step (Expr-F.Mul a b) = purity_at (both_fixed (λ x y. x *ℤ y) a.fixed b.fixed) ((a.pure && b.pure) && (is_some a.fixed || is_some b.fixed)) (a.small && b.small)
purity_step (Expr-F.FloorDiv a b) = purity_at (both_fixed floor_div a.fixed b.fixed) ((a.pure && b.pure) && is_positive b.fixed) (a.small && b.small)
purity_step (Expr-F.CeilDiv a b) = purity_at (both_fixed ceil_div a.fixed b.fixed) ((a.pure && b.pure) && is_positive b.fixed) (a.small && b.small)
purity_step (Expr-F.Mod a b) = purity_at (both_fixed floor_mod a.fixed b.fixed) ((a.pure && b.pure) && is_positive b.fixed) (a.small && b.small)

abbrev pub purity : Expr → Purity
purity = fold-Expr Purity purity_step

-- the value of an expression without dimensions and symbols, and none of another
unfoldable pub fixed_value : Expr → Option ℤ
fixed_value e = (purity e).fixed

-- whether each product and each division within an expression stands on such sides: the rule V8 of validity
unfoldable pub is_pure : Expr → Bool
is_pure e = (purity e).pure

-- whether each part without dimensions and symbols has its value within -2 ^ 62 to 2 ^ 62
unfoldable pub has_small_numbers : Expr → Bool
has_small_numbers e = (purity e).small

-- whether the dimensions are numbered below `dims`, the symbols below `syms`
abbrev pub leaves_step : ℕ → ℕ → Expr-F Bool → Bool
leaves_step dims syms (Expr-F.Dim n) = nat_lt n dims
leaves_step dims syms (Expr-F.Sym n) = nat_lt n syms
leaves_step dims syms (Expr-F.Const z) = true
leaves_step dims syms (Expr-F.Neg a) = a
leaves_step dims syms (Expr-F.Add a b) = a && b
leaves_step dims syms (Expr-F.Sub a b) = a && b
leaves_step dims syms (Expr-F.Mul a b) = a && b
leaves_step dims syms (Expr-F.FloorDiv a b) = a && b
leaves_step dims syms (Expr-F.CeilDiv a b) = a && b
leaves_step dims syms (Expr-F.Mod a b) = a && b

unfoldable pub has_leaves_below : ℕ → ℕ → Expr → Bool
has_leaves_below dims syms = fold-Expr Bool (leaves_step dims syms)
