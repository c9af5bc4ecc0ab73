-- A subscript less the place of its dimension; which accesses may be written so.
use Rattle.std.specs.Prelude.{ℕ, ℤ, List, [], ◌∷◌, if◌then◌else◌, Option, Some, None, All}
use Rattle.affine_expr.specs.declared.expr.Expr.{Expr, Dim, Sub}
use Rattle.placement_texts.specs.Template.{Dimension, less, number_of}
use Rattle.placement_code.specs.Beginnings.{has_none, fixed_place, behind_one}
use Rattle.valid_laws.specs.Safe.{IsSmall}

abbrev pub less_one : ℕ → Expr → Dimension → Expr
less_one k e d = if has_none d.terms then less e (fixed_place d) else Sub e (Dim k)

-- of each dimension in order; a subscript without one stays
abbrev pub less_dims : ℕ → List Expr → List Dimension → List Expr
less_dims k [] ds = []
less_dims k (e ∷ es) [] = e ∷ es
less_dims k (e ∷ es) (d ∷ ds) = less_one k e d ∷ less_dims (behind_one k d) es ds

-- a subscript that is a number is a small one
abbrev pub SmallWhere : Option ℤ → Type 0
SmallWhere (Some z) = IsSmall z
SmallWhere None = Unit {0}

abbrev pub HasSmall : Expr → Type 0
HasSmall e = SmallWhere (number_of e)

abbrev pub HaveSmall : List Expr → Type 0
HaveSmall es = All HasSmall es
