-- Whether a region's templates keep to the rule on intervals, and the region with this rule.
use Rattle.std.specs.Prelude.{ℕ, Bool, true, false, ◌&&◌, if◌then◌else◌, List, [], ◌∷◌, Option, Some, None, Result, Ok, Err}
use Rattle.affine_expr.specs.Spread.{Range}
use Rattle.affine_ast.specs.declared.module.Arg.{Arg}
use Rattle.nest_domain.specs.Boxes.{Dimension}
use Rattle.nest_domain.specs.Ways.{Header, Use, loop_count}
use Rattle.place_intervals.specs.Places.{place_ranges, copies_fit, subscripts_fit}
use Rattle.access_region.specs.Faults.{NoRegion, coefficient, ◌>>=◌}
use Rattle.access_region.specs.Candidates.{Reaching}
use Rattle.access_region.specs.Regions.{Outside, reaching, outside_at, dimensions}
use Rattle.access_region.specs.Widening.{for_transfers}

abbrev pub accesses_fit : List Range → List Reaching → Bool
accesses_fit places [] = true
accesses_fit places (a ∷ xs) = subscripts_fit a.ranges places && accesses_fit places xs

abbrev pub templates_fit : Bool → List Dimension → List Reaching → Option (List Range) → Bool
templates_fit dma ds xs (Some places) = (if dma then true else copies_fit ds places) && accesses_fit places xs
templates_fit dma ds xs None = false

-- whether the templates of a region keep to the rule, over the intervals of the loop's outside: the places, `iv + place` of the copy
-- loops where the copies aren't transfers, and the redirected subscripts `e - place`
abbrev pub region_fits : List Range → List Reaching → List ℕ → Bool → List Dimension → Bool
region_fits outer xs sizes dma ds = templates_fit dma ds xs (place_ranges outer sizes ds)

-- ---- the region, with the rule on intervals
abbrev pub kept_where : Bool → List Dimension → Result (List Dimension) NoRegion
kept_where true ds = Ok ds
kept_where false ds = Err coefficient

-- from the accesses and the outside, behind so many loops
abbrev pub region_from : Outside → ℕ → List Reaching → List ℕ → Bool → Result (List Dimension) NoRegion
region_from outside loops xs sizes dma = do
  ds ← dimensions outside loops xs 0 sizes
  kept_where (region_fits outside.ranges xs sizes dma (for_transfers dma sizes ds)) (for_transfers dma sizes ds)

-- widened where it is for transfers; a region whose templates would break the rule on intervals gives `coefficient`
unfoldable pub region_of : List Arg → List Header → List Use → List ℕ → Bool → Result (List Dimension) NoRegion
region_of args way us sizes dma = do
  xs ← reaching args us
  outside ← outside_at args way
  region_from outside (loop_count way) xs sizes dma
