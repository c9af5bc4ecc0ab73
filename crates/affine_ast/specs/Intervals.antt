-- The intervals of values, from the outside in: index arguments by their ranges, loop variables by the bounds of their loops,
-- results of maps by those of their operands.
use Rattle.std.specs.Prelude.{ℤ, pos, ◌-ℤ◌, List, [], ◌∷◌, map, take, drop, fold, slice_index_or, Option, Some, None}
use Rattle.std.specs.Int.{int_min, int_max}
use Rattle.affine_expr.specs.declared.map.Interval.{Interval}
use Rattle.affine_expr.specs.Spread.{Range, only, range_of}
use Rattle.affine_ast.specs.declared.name.Name.{Name}
use Rattle.affine_ast.specs.declared.types.Access.{Access}
use Rattle.affine_ast.specs.declared.types.Bound.{Bound}
use Rattle.affine_ast.specs.declared.types.Bound.TheVariants as bound
use Rattle.affine_ast.specs.declared.types.Pick.{Pick}
use Rattle.affine_ast.specs.declared.types.Pick.TheVariants.{Apply, Min, Max}

-- the range of each name that has a number
abbrev pub Ranges : Type 0
Ranges = Name → Range

-- the range of an index argument; from 0 to 1,048,576 where none is written
abbrev pub range_or : Option Interval → Interval
range_or (Some range) = range
range_or None = record { least = pos 0; greatest = pos 1048576 }

-- the ranges of a map's results: its operands are those of its dimensions and then those of its symbols
abbrev pub ranges_at : Ranges → Access → List Range
ranges_at rho at = map (range_of (take at.map.dims (map rho at.operands)) (drop at.map.dims (map rho at.operands))) at.map.results

abbrev pub over_all : (ℤ → ℤ → ℤ) → List ℤ → ℤ
over_all choose [] = pos 0
over_all choose (z ∷ zs) = fold choose z zs

-- the least, or the greatest, of the least and of the greatest values
abbrev pub pick_range : (ℤ → ℤ → ℤ) → List Range → Range
pick_range choose rs = record { least = over_all choose (map (λ r. r.least) rs); greatest = over_all choose (map (λ r. r.greatest) rs) }

abbrev pub picked_range : Pick → List Range → Range
picked_range Apply rs = slice_index_or rs 0 (only (pos 0))
picked_range Min rs = pick_range int_min rs
picked_range Max rs = pick_range int_max rs

-- the greatest of the lower results' least values
unfoldable pub first_turn : Ranges → Bound → ℤ
first_turn rho (bound.Int z) = z
first_turn rho (bound.Value n) = (rho n).least
first_turn rho (bound.Map at) = over_all int_max (map (λ r. r.least) (ranges_at rho at))

-- the least of the upper results' greatest values
unfoldable pub last_end : Ranges → Bound → ℤ
last_end rho (bound.Int z) = z
last_end rho (bound.Value n) = (rho n).greatest
last_end rho (bound.Map at) = over_all int_min (map (λ r. r.greatest) (ranges_at rho at))

-- a loop variable between these
abbrev pub turn_range : ℤ → ℤ → Range
turn_range a b = record { least = a; greatest = int_max a (b -ℤ pos 1) }
