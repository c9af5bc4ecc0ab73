-- The three parts of the rows at a variable.
use Rattle.std.specs.Prelude.{ℕ, Bool, List, filter, ℤ, pos, int_lt}
use Rattle.std.specs.Ordering.{int_eq}
use Rattle.constraint_set.specs.Points.{LinearRow, coef}
use Rattle.projection.specs.declared.side.Side.{Side}
use Rattle.projection.specs.declared.side.Side.TheVariants.{Raising, Lowering, Without}

-- whether a coefficient puts its row on a side
abbrev pub is_on : Side → ℤ → Bool
is_on Raising c = int_lt (pos 0) c
is_on Lowering c = int_lt c (pos 0)
is_on Without c = int_eq c (pos 0)

-- the rows on a side of variable k
abbrev pub on_side : Side → ℕ → List LinearRow → List LinearRow
on_side side k rows = filter (λ r. is_on side (coef k r)) rows
