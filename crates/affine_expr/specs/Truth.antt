-- Where a constraint and an integer set hold.
use Rattle.std.specs.Prelude.{ℤ, Bool, true, ◌&&◌, List, [], ◌∷◌, int_le}
use Rattle.std.specs.Ordering.{int_eq}
use Rattle.affine_expr.specs.declared.map.Rel.{Rel}
use Rattle.affine_expr.specs.declared.map.Rel.TheVariants.{Ge, Le, Eq}
use Rattle.affine_expr.specs.declared.map.Constraint.{Constraint}
use Rattle.affine_expr.specs.declared.map.Set.{Set}
use Rattle.affine_expr.specs.Value.{value}

-- whether two values compare as a constraint asks
abbrev pub compares : Rel → ℤ → ℤ → Bool
compares Ge a b = int_le b a
compares Le a b = int_le a b
compares Eq a b = int_eq a b

-- whether all constraints hold
abbrev pub all_hold : List ℤ → List ℤ → List Constraint → Bool
all_hold ds ss [] = true
all_hold ds ss (row ∷ rows) = compares row.rel (value ds ss row.left) (value ds ss row.right) && all_hold ds ss rows

-- whether a set is true where the dimensions and the symbols have these values: all its constraints hold
unfoldable pub holds : List ℤ → List ℤ → Set → Bool
holds ds ss set = all_hold ds ss set.rows
