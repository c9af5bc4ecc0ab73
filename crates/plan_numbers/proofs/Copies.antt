-- A plan of two placements by copy loops.
use Rattle.std.proofs.Common.{◌≡◌, refl, ap, ◌∙◌, List, pos, [], ◌∷◌, true, false}
use Rattle.std.specs.Prelude.{Ok, nat_lt, if◌then◌else◌}
use Rattle.num_row.specs.Ints.{narrowed, combined}
use Rattle.num_row.specs.Divisors.{gcd_of}
use Rattle.affine_expr.specs.declared.expr.Expr.{Dim}
use Rattle.affine_expr.specs.Bounded.{limited}
use Rattle.affine_expr.specs.Value.{floor_div}
use Rattle.affine_expr.specs.Linear.{join_forms, scale_form, number_form, variable_form, padded, minus, floored_form, rest_form, raised as raised_form}
use Rattle.affine_expr.proofs.Overs.{overs}
use Rattle.affine_ast.specs.declared.types.Bound.TheVariants as bound
use Rattle.affine_ast.specs.declared.types.Element.TheVariants.{I32}
use Rattle.affine_ast.specs.declared.types.Scalar.TheVariants as scalar
use Rattle.affine_ast.specs.Intervals.{first_turn, last_end}
use Rattle.affine_ast.specs.Names.{same_name, put}
use Rattle.affine_ast.specs.Nest.{Nest, Nothing, Loop, Does, Load, Store, Constant, Binary, Return, nest}
use Rattle.affine_ast.specs.Rules.{has_interval, access_bounded, set_bounded, is_small_dimension, sizes_positive, shape_within}
use Rattle.affine_ast.specs.Scope.{ranges_in}
use Rattle.affine_ast.proofs.Nests.{nests}
use Rattle.affine_ast.proofs.PlainLaws.{counts, depth_laws}
use Rattle.int_ops.specs.declared.operation.Op.TheVariants as op
use Rattle.constraint_set.specs.Tidy.{tidied}
use Rattle.constraint_set.specs.Elimination.{pair_of, step, steps, eliminated}
use Rattle.constraint_set.specs.Reach.{emptiness, valued, greatest_lower, least_upper, reach_of}
use Rattle.nest_domain.specs.declared.plan.Cause.TheVariants as cause
use Rattle.nest_domain.specs.Domains.{along, place, row_at, system_of, access}
use Rattle.nest_domain.specs.Ways.{used, uses}
use Rattle.access_region.specs.Places.{region_of}
use Rattle.access_region.specs.Widening.{shape, widened}
use Rattle.made_names.specs.Made.{made_name}
use Rattle.peak_laws.specs.Peak.{peak_of}
use Rattle.placement_texts.specs.Fold.{Step}
use Rattle.placement_texts.specs.Template as template
use Rattle.placement_texts.specs.Template.{Copies}
use Rattle.placement_texts.specs.Spots.{Here, stage_one}
use Rattle.plan_laws.specs.Limits.{keeps_limits, keeps_intervals}
use Rattle.plan_laws.specs.Plan.{Site, Asked, Planned, Settled, Unstaged, Placed, region_at, step_at, tested_in, settled_from, with_settled, decided, planned, plan}
use Rattle.plan_numbers.specs.Modules.{A, B, i, loaded, raised, c, at, slow, raised_copy}
use Rattle.plan_numbers.specs.Law.{with_loops, all_eight, both_staged}
use Rattle.plan_numbers.proofs.Folds.{numbers_of, bounds, spread_parts}

abbrev loop : Nest
loop =
    Loop 2 i (bound.Int (pos 0)) (bound.Int (pos 8)) (pos 1)
    (Does 3 (Load loaded A (at (Dim 0) i) (slow 8))
    (Does 4 (Constant c (pos 1) (scalar.Int I32))
    (Does 5 (Binary raised op.Add loaded c (scalar.Int I32))
    (Does 6 (Store raised B (at (Dim 0) i) (slow 8)) Nothing))))
    (Does 8 Return Nothing)

loop_is : nest raised_copy.body ≡ loop
loop_is = simp nests refl

a_there : region_at with_loops raised_copy.args loop A (slow 8) Here ≡ Ok all_eight
unfolding region_of widened shape limited uses used padded minus along place system_of row_at access reach_of emptiness valued greatest_lower least_upper tidied pair_of step steps eliminated same_name put join_forms scale_form number_form variable_form floored_form rest_form raised_form floor_div narrowed combined gcd_of first_turn last_end
a_there = simp (overs, bounds, spread_parts) refl

b_there : region_at with_loops raised_copy.args loop B (slow 8) Here ≡ Ok all_eight
unfolding region_of widened shape limited uses used padded minus along place system_of row_at access reach_of emptiness valued greatest_lower least_upper tidied pair_of step steps eliminated same_name put join_forms scale_form number_form variable_form floored_form rest_form raised_form floor_div narrowed combined gcd_of first_turn last_end
b_there = simp (overs, bounds, spread_parts) refl

-- ---- the placements, and the texts that have them
abbrev eight : List template.Dimension
eight = record { size = 8; terms = []; offset = pos 0; extent = 8; clamped = false } ∷ []

abbrev a_step : Step
a_step = record { placement = record { memref = A; element = I32; dims = eight; reads = true; writes = false; how = Copies; name = made_name 0 }; spot = Here; order = 0; first = 0 }

abbrev b_step : Step
b_step = record { placement = record { memref = B; element = I32; dims = eight; reads = true; writes = true; how = Copies; name = made_name 1 }; spot = Here; order = 1; first = 8 }

abbrev there : Site
there = record { at = Here; region = all_eight }

a_is : step_at with_loops raised_copy.args loop 0 A (slow 8) there ≡ a_step
unfolding uses same_name
a_is = refl

b_is : step_at with_loops raised_copy.args loop 1 B (slow 8) there ≡ b_step
unfolding uses same_name
b_is = refl

abbrev text_a : Nest
text_a = stage_one a_step.placement Here loop

abbrev text_b : Nest
text_b = stage_one b_step.placement Here text_a

intervals_a : keeps_intervals raised_copy.args text_a ≡ true
unfolding keeps_intervals same_name put floor_div limited first_turn last_end ranges_in has_interval access_bounded set_bounded is_small_dimension
intervals_a = simp (numbers_of, bounds, spread_parts) refl

within_a : keeps_limits raised_copy.args text_a ≡ true
unfolding keeps_limits same_name put floor_div limited first_turn last_end ranges_in sizes_positive shape_within
within_a = simp (numbers_of, counts, depth_laws) refl

fits_a : tested_in with_loops raised_copy.args loop a_step all_eight loop ≡ Placed a_step all_eight
unfolding same_name
fits_a = λ j. if intervals_a j then (if nat_lt 1048576 (peak_of text_a 0) then Unstaged cause.Capacity else (if within_a j then Placed a_step all_eight else Unstaged cause.Size)) else Unstaged cause.Coefficient

settles_a : settled_from with_loops raised_copy.args loop [] A (slow 8) Here (region_at with_loops raised_copy.args loop A (slow 8) Here) ≡ Placed a_step all_eight
settles_a = ap (settled_from with_loops raised_copy.args loop [] A (slow 8) Here) a_there ∙ ap (λ x. tested_in with_loops raised_copy.args loop x all_eight loop) a_is ∙ fits_a

intervals_b : keeps_intervals raised_copy.args text_b ≡ true
unfolding keeps_intervals same_name put floor_div limited first_turn last_end ranges_in has_interval access_bounded set_bounded is_small_dimension
intervals_b = simp (numbers_of, bounds, spread_parts) refl

within_b : keeps_limits raised_copy.args text_b ≡ true
unfolding keeps_limits same_name put floor_div limited first_turn last_end ranges_in sizes_positive shape_within
within_b = simp (numbers_of, counts, depth_laws) refl

fits_b : tested_in with_loops raised_copy.args loop b_step all_eight text_a ≡ Placed b_step all_eight
unfolding same_name
fits_b = λ j. if intervals_b j then (if nat_lt 1048576 (peak_of text_b 0) then Unstaged cause.Capacity else (if within_b j then Placed b_step all_eight else Unstaged cause.Size)) else Unstaged cause.Coefficient

settles_b : settled_from with_loops raised_copy.args loop (a_step ∷ []) B (slow 8) Here (region_at with_loops raised_copy.args loop B (slow 8) Here) ≡ Placed b_step all_eight
settles_b = ap (settled_from with_loops raised_copy.args loop (a_step ∷ []) B (slow 8) Here) b_there ∙ ap (λ x. tested_in with_loops raised_copy.args loop x all_eight text_a) b_is ∙ fits_b

-- ---- the plan
abbrev none_yet : Planned
none_yet = record { steps = []; decisions = [] }

abbrev asked_a : Asked
asked_a = record { block = 0; at = Here; memref = A }

abbrev asked_b : Asked
asked_b = record { block = 0; at = Here; memref = B }

abbrev with_a : Settled → Planned
with_a y = with_settled with_loops raised_copy.args loop asked_a none_yet y

abbrev with_b : Settled → Planned
with_b y = with_settled with_loops raised_copy.args loop asked_b (with_a (Placed a_step all_eight)) y

planned_two : (planned with_loops raised_copy.args loop).decisions ≡ (with_b (Placed b_step all_eight)).decisions
unfolding planned same_name
planned_two =
    ap (λ y. (decided with_loops raised_copy.args loop (with_a y) asked_b).decisions) settles_a
    ∙ ap (λ y. (with_b y).decisions) settles_b

pub two_staged : plan with_loops raised_copy ≡ both_staged
unfolding same_name
two_staged = ap (λ n. (planned with_loops raised_copy.args n).decisions) loop_is ∙ planned_two
