-- The shape of a reach, and the parts of its answer.
use Rattle.std.specs.Prelude.{suc, List, map, Option, Some, None, Result, Ok, ℤ, pos, ◌<ℤ◌}
use Rattle.std.specs.List.{reduce}
use Rattle.std.specs.Int.{int_max, int_min}
use Rattle.constraint_set.specs.Points.{LinearRow, LinearSystem}
use Rattle.constraint_set.specs.Tidy.{tidied}
use Rattle.constraint_set.specs.Elimination.{Refusal, ◌>>=◌, or_wide, steps, countdown}
use Rattle.constraint_set.specs.Reach.{Reach, never, between, valued, lower_bound, upper_bound, bounds_by, greatest_lower, least_upper}
use Rattle.projection.specs.declared.reaching.Reached.{Reached}
use Rattle.projection.specs.declared.reaching.Reached.TheVariants.{Never, Between}
use Rattle.projection.specs.declared.bounds.End.{End}
use Rattle.projection.specs.declared.bounds.End.TheVariants.{Least, Greatest}

-- the form `coefs . x + constant`
abbrev pub form_of : List ℤ → ℤ → LinearRow
form_of coefs constant = record { coefs = coefs; constant = constant }

abbrev pub shape_of : Reached → Reach
shape_of Never = never
shape_of (Between least greatest) = between least greatest

-- the rows once all variables but the value of the form are eliminated
abbrev pub value_rows : LinearSystem → LinearRow → Result (List LinearRow) Refusal
value_rows s form = valued s form >>= (λ both. steps (map suc (countdown s.vars)) (tidied both))

-- the least and the greatest, in rows over the value of the form alone
abbrev pub both_bounds : List LinearRow → Result Reach Refusal
both_bounds rows = greatest_lower rows >>= (λ least. least_upper rows >>= (λ greatest. Ok (between least greatest)))

-- ---- the bounds at an end
-- the coefficient has the sign of that end's bounds
abbrev pub HasSign : End → ℤ → Type 0
HasSign Least c = pos 0 <ℤ c
HasSign Greatest c = c <ℤ pos 0

abbrev pub bound_at : End → LinearRow → ℤ
bound_at Least r = lower_bound r
bound_at Greatest r = upper_bound r

-- the one of two bounds that says more
abbrev pub tighter : End → ℤ → ℤ → ℤ
tighter Least a b = int_max a b
tighter Greatest a b = int_min a b

abbrev pub tighter_than : End → Option ℤ → ℤ → ℤ
tighter_than end None b = b
tighter_than end (Some a) b = tighter end a b

-- the tightest of the bounds of rows
abbrev pub tightest_of : End → List LinearRow → Result ℤ Refusal
tightest_of end rows = bounds_by (bound_at end) rows >>= (λ bounds. or_wide (reduce (tighter end) bounds))
