-- Worked plans, by computing.
use Rattle.std.proofs.Common.{◌≡◌, refl, ap, ◌∙◌, ℕ, List, pos, [], ◌∷◌, true, false}
use Rattle.std.specs.Prelude.{Ok, Err}
use Rattle.num_row.specs.Ints.{narrowed, combined}
use Rattle.num_row.specs.Divisors.{gcd_of}
use Rattle.affine_expr.specs.Bounded.{limited}
use Rattle.affine_expr.specs.Value.{floor_div}
use Rattle.affine_expr.specs.Linear.{join_forms, scale_form, number_form, variable_form, padded, minus, floored_form, rest_form, raised as raised_form}
use Rattle.affine_expr.proofs.Overs.{overs}
use Rattle.affine_ast.specs.Intervals.{first_turn, last_end}
use Rattle.affine_ast.specs.Names.{same_name, put}
use Rattle.affine_ast.specs.declared.types.Bound.TheVariants as bound
use Rattle.affine_ast.specs.declared.types.Element.TheVariants.{I32}
use Rattle.affine_ast.specs.declared.types.Scalar.TheVariants as scalar
use Rattle.int_ops.specs.declared.operation.Op.TheVariants as op
use Rattle.affine_expr.specs.declared.expr.Expr.{Dim, Const, Add}
use Rattle.affine_ast.specs.Nest.{Nest, Nothing, Loop, Does, Load, Store, Constant, Binary, Return, nest}
use Rattle.affine_ast.specs.Rules.{has_interval, access_bounded, set_bounded, is_small_dimension, sizes_positive, shape_within}
use Rattle.affine_ast.specs.Scope.{ranges_in}
use Rattle.affine_ast.proofs.Nests.{nests}
use Rattle.affine_ast.proofs.PlainLaws.{counts, depth_laws}
use Rattle.constraint_set.specs.Tidy.{tidied}
use Rattle.constraint_set.specs.Elimination.{pair_of, step, steps, eliminated}
use Rattle.constraint_set.specs.Reach.{emptiness, valued, greatest_lower, least_upper, reach_of}
use Rattle.nest_domain.specs.Boxes.{Dimension}
use Rattle.nest_domain.specs.Domains.{along, place, row_at, system_of, access}
use Rattle.nest_domain.specs.Ways.{used, uses}
use Rattle.access_region.specs.Faults.{unplaced}
use Rattle.box_covers.specs.Covers.{covers}
use Rattle.access_region.specs.Places.{region_of}
use Rattle.access_region.specs.Widening.{shape, widened}
use Rattle.std.specs.Prelude.{None, nat_lt, if◌then◌else◌}
use Rattle.made_names.specs.Made.{made_name}
use Rattle.peak_laws.specs.Peak.{peak_of}
use Rattle.placement_texts.specs.Fold.{Step}
use Rattle.placement_texts.specs.Template.{Placement, Transfers}
use Rattle.placement_texts.specs.Spots.{Here, Inside, stage_one}
use Rattle.plan_laws.specs.Limits.{keeps_limits, keeps_intervals}
use Rattle.nest_domain.specs.declared.plan.Cause.TheVariants as cause
use Rattle.plan_laws.specs.Plan.{Site, Asked, Unstaged, Placed, region_at, hoisted_by, hoisted, step_at, tested_in, settled_at, settled_from, steps_with, decision, planned}
use Rattle.plan_numbers.specs.Modules.{A, it, i, loaded, raised, c, at, slow, no_turn, tiles}
use Rattle.plan_numbers.specs.Law.{with_loops, with_transfers, left, tile, staged_tile}
use Rattle.plan_numbers.proofs.Folds.{numbers_of, bounds, spread_parts}

-- ---- the loop without turns
abbrev pub still : Nest
still =
    Loop 2 i (bound.Int (pos 5)) (bound.Int (pos 5)) (pos 1)
    (Does 3 (Load loaded A (at (Dim 0) i) (slow 8))
    (Does 4 (Store loaded A (at (Dim 0) i) (slow 8)) Nothing))
    (Does 6 Return Nothing)

pub still_is : nest no_turn.body ≡ still
still_is = simp nests refl

no_region_there : region_at with_loops no_turn.args still A (slow 8) Here ≡ Err unplaced
unfolding region_of uses used padded minus along place system_of row_at access reach_of emptiness valued greatest_lower least_upper tidied pair_of step steps eliminated same_name put join_forms scale_form number_form variable_form floored_form rest_form raised_form floor_div narrowed combined gcd_of first_turn last_end
no_region_there = simp overs refl

pub unstaged : (planned with_loops no_turn.args still).decisions ≡ left 0 2 cause.Region
unfolding planned same_name
unstaged = simp no_region_there refl

-- ---- tiles
abbrev pub round : Nest
round =
    Loop 2 it (bound.Int (pos 0)) (bound.Int (pos 64)) (pos 16)
    (Loop 3 i (bound.Map (at (Dim 0) it)) (bound.Map (at (Add (Dim 0) (Const (pos 16))) it)) (pos 1)
    (Does 4 (Load loaded A (at (Dim 0) i) (slow 64))
    (Does 5 (Constant c (pos 1) (scalar.Int I32))
    (Does 6 (Binary raised op.Add loaded c (scalar.Int I32))
    (Does 7 (Store raised A (at (Dim 0) i) (slow 64)) Nothing)))) Nothing)
    (Does 10 Return Nothing)

pub round_is : nest tiles.body ≡ round
round_is = simp nests refl

abbrev whole : List Dimension
whole = record { coefs = []; offset = pos 0; extent = pos 64; clamped = false } ∷ []

tile_there : (capacity : ℕ) → region_at (with_transfers capacity) tiles.args round A (slow 64) (Inside Here) ≡ Ok tile
unfolding region_of widened shape limited uses used padded minus along place system_of row_at access reach_of emptiness valued greatest_lower least_upper tidied pair_of step steps eliminated same_name put join_forms scale_form number_form variable_form floored_form rest_form raised_form floor_div narrowed combined gcd_of first_turn last_end
tile_there capacity = simp (overs, bounds, spread_parts) refl

whole_there : (capacity : ℕ) → region_at (with_transfers capacity) tiles.args round A (slow 64) Here ≡ Ok whole
unfolding region_of widened shape limited uses used padded minus along place system_of row_at access reach_of emptiness valued greatest_lower least_upper tidied pair_of step steps eliminated same_name put join_forms scale_form number_form variable_form floored_form rest_form raised_form floor_div narrowed combined gcd_of first_turn last_end
whole_there capacity = simp (overs, bounds, spread_parts) refl

abbrev pub placement : Placement
placement = record {
  memref = A;
  element = I32;
  dims = record { size = 64; terms = (it, pos 1) ∷ []; offset = pos 0; extent = 16; clamped = false } ∷ [];
  reads = true;
  writes = true;
  how = Transfers None;
  name = made_name 0;
}

abbrev pub placed : Step
placed = record { placement = placement; spot = Inside Here; order = 0; first = 0 }

step_is : (capacity : ℕ) → step_at (with_transfers capacity) tiles.args round 0 A (slow 64) (record { at = Inside Here; region = tile }) ≡ placed
unfolding covers uses same_name
step_is capacity = refl

abbrev pub text : Nest
text = stage_one placement (Inside Here) round

intervals : keeps_intervals tiles.args text ≡ true
unfolding keeps_intervals same_name put floor_div limited first_turn last_end ranges_in has_interval access_bounded set_bounded is_small_dimension
intervals = simp (numbers_of, bounds, spread_parts) refl

within : keeps_limits tiles.args text ≡ true
unfolding keeps_limits same_name put floor_div limited first_turn last_end ranges_in sizes_positive shape_within
within = simp (numbers_of, counts, depth_laws) refl

bytes : peak_of text 0 ≡ 64
unfolding same_name
bytes = refl

abbrev inner : Site
inner = record { at = Inside Here; region = tile }

-- the region round the outer loop has another extent
hoisted_is : (capacity : ℕ) → hoisted (with_transfers capacity) tiles.args round A (slow 64) 2 (Here ∷ []) inner ≡ inner
unfolding same_name
hoisted_is capacity = ap (λ r. hoisted_by (with_transfers capacity) tiles.args round (λ x. x) inner Here r) (whole_there capacity)

fits : tested_in (with_transfers 64) tiles.args round placed tile round ≡ Placed placed tile
unfolding same_name
fits = λ j. if intervals j then (if nat_lt 64 (peak_of text 0) then Unstaged cause.Capacity else (if within j then Placed placed tile else Unstaged cause.Size)) else Unstaged cause.Coefficient

passes : tested_in (with_transfers 63) tiles.args round placed tile round ≡ Unstaged cause.Capacity
unfolding same_name
passes = λ j. if intervals j then (if nat_lt 63 (peak_of text 0) then Unstaged cause.Capacity else (if keeps_limits tiles.args text then Placed placed tile else Unstaged cause.Size)) else Unstaged cause.Coefficient

-- what the test of the one placement says
settles : (capacity : ℕ) → settled_from (with_transfers capacity) tiles.args round [] A (slow 64) (Inside Here) (region_at (with_transfers capacity) tiles.args round A (slow 64) (Inside Here))
    ≡ tested_in (with_transfers capacity) tiles.args round placed tile round
unfolding same_name
settles capacity =
    ap (settled_from (with_transfers capacity) tiles.args round [] A (slow 64) (Inside Here)) (tile_there capacity)
    ∙ ap (settled_at (with_transfers capacity) tiles.args round [] A (slow 64)) (hoisted_is capacity)
    ∙ ap (λ x. tested_in (with_transfers capacity) tiles.args round x tile round) (step_is capacity)

abbrev asked_one : Asked
asked_one = record { block = 0; at = Inside Here; memref = A }

pub staged : (planned (with_transfers 64) tiles.args round).decisions ≡ staged_tile
unfolding planned same_name
staged = ap (λ y. decision (with_transfers 64) tiles.args round asked_one y ∷ []) (settles 64 ∙ fits)

pub steps_are : (planned (with_transfers 64) tiles.args round).steps ≡ placed ∷ []
unfolding planned same_name
steps_are = ap (steps_with (with_transfers 64) tiles.args round []) (settles 64 ∙ fits)

pub refused : (planned (with_transfers 63) tiles.args round).decisions ≡ left 0 3 cause.Capacity
unfolding planned same_name
refused = ap (λ y. decision (with_transfers 63) tiles.args round asked_one y ∷ []) (settles 63 ∙ passes)
