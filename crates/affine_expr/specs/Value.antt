-- The value of an affine expression over the integers.
use Rattle.std.specs.Prelude.{ℤ, pos, neg_ℤ, ◌+ℤ◌, ◌-ℤ◌, ◌*ℤ◌, List, int_lt, if◌then◌else◌, slice_index_or}
use Rattle.std.specs.Int.{int_div_euclid}
use Rattle.affine_expr.specs.declared.expr.Expr.{Expr, fold-Expr}
use Rattle.affine_expr.specs.declared.expr.Expr.TheOpen.{Expr-F}

-- the quotient rounded down: toward negative infinity, for a divisor of either sign
unfoldable pub floor_div : ℤ → ℤ → ℤ
floor_div a c = if int_lt c (pos 0) then int_div_euclid (neg_ℤ a) (neg_ℤ c) else int_div_euclid a c

-- the quotient rounded up: toward positive infinity
unfoldable pub ceil_div : ℤ → ℤ → ℤ
ceil_div a c = neg_ℤ (floor_div (neg_ℤ a) c)

-- what the quotient rounded down leaves
unfoldable pub floor_mod : ℤ → ℤ → ℤ
floor_mod a c = a -ℤ c *ℤ floor_div a c

-- one level of an expression, whose parts have these values: `ds` are the values of the dimensions, `ss` of the symbols
abbrev pub value_step : List ℤ → List ℤ → Expr-F ℤ → ℤ
value_step ds ss (Expr-F.Dim n) = slice_index_or ds n (pos 0)
value_step ds ss (Expr-F.Sym n) = slice_index_or ss n (pos 0)
value_step ds ss (Expr-F.Const z) = z
value_step ds ss (Expr-F.Neg a) = neg_ℤ a
value_step ds ss (Expr-F.Add a b) = a +ℤ b
value_step ds ss (Expr-F.Sub a b) = a -ℤ b
value_step ds ss (Expr-F.Mul a b) = a *ℤ b
value_step ds ss (Expr-F.FloorDiv a c) = floor_div a c
value_step ds ss (Expr-F.CeilDiv a c) = ceil_div a c
value_step ds ss (Expr-F.Mod a c) = floor_mod a c

-- the value of an expression where the dimensions and the symbols have these values
unfoldable pub value : List ℤ → List ℤ → Expr → ℤ
value ds ss = fold-Expr ℤ (value_step ds ss)
