-- Sums of expressions, folded: two numbers are one number, 0 is neither added nor taken away, and what is added below 0 is
-- taken away instead.
use Rattle.std.specs.Prelude.{ℤ, pos, neg_ℤ, ◌+ℤ◌, ◌-ℤ◌, Option, Some, None, int_lt, if◌then◌else◌}
use Rattle.std.specs.Ordering.{int_eq}
use Rattle.affine_expr.specs.declared.expr.Expr.{Expr, Add, Const, Sub, fold-Expr}
use Rattle.affine_expr.specs.declared.expr.Expr.TheOpen.{Expr-F}

abbrev pub number_step : Expr-F (Option ℤ) → Option ℤ
number_step (Expr-F.Const z) = Some z
number_step e = None

-- the number that an expression is, where it is one integer
unfoldable pub number_of : Expr → Option ℤ
number_of = fold-Expr (Option ℤ) number_step

abbrev pub sum_by : Option ℤ → Option ℤ → Expr → Expr → Expr
sum_by (Some x) (Some y) a b = Const (x +ℤ y)
sum_by (Some x) None a b = if int_eq x (pos 0) then b else Add a b
sum_by None (Some y) a b = if int_eq y (pos 0) then a else (if int_lt y (pos 0) then Sub a (Const (neg_ℤ y)) else Add a b)
sum_by None None a b = Add a b

-- `a + b`
abbrev pub sum_of : Expr → Expr → Expr
sum_of a b = sum_by (number_of a) (number_of b) a b

abbrev pub difference_by : Option ℤ → Option ℤ → Expr → Expr → Expr
difference_by (Some x) (Some y) a b = Const (x -ℤ y)
difference_by None (Some y) a b = if int_eq y (pos 0) then a else Sub a b
difference_by x None a b = Sub a b

-- `a - b`
abbrev pub difference_of : Expr → Expr → Expr
difference_of a b = difference_by (number_of a) (number_of b) a b
