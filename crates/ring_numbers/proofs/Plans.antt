-- The plan of the tiles with doubling, by computing.
use Rattle.std.proofs.Common.{◌≡◌, refl, ap, ◌∙◌, sym, ℕ, List, pos, [], ◌∷◌, true, false}
use Rattle.std.specs.Prelude.{Ok, None, nat_lt, not, ◌&&◌, map, if◌then◌else◌, Option, Some}
use Rattle.num_row.specs.Ints.{narrowed, combined}
use Rattle.num_row.specs.Divisors.{gcd_of}
use Rattle.affine_expr.specs.Bounded.{limited}
use Rattle.affine_expr.specs.Value.{floor_div}
use Rattle.affine_expr.specs.Linear.{join_forms, scale_form, number_form, variable_form, padded, minus, floored_form, rest_form, raised as raised_form}
use Rattle.affine_expr.proofs.Overs.{overs}
use Rattle.affine_ast.specs.Intervals.{first_turn, last_end}
use Rattle.affine_ast.specs.Names.{same_name, put}
use Rattle.affine_ast.specs.Nest.{Nest, nest}
use Rattle.affine_ast.specs.Rules.{has_interval, access_bounded, set_bounded, is_small_dimension, sizes_positive, shape_within}
use Rattle.affine_ast.specs.Scope.{ranges_in}
use Rattle.affine_ast.proofs.PlainLaws.{counts, depth_laws}
use Rattle.constraint_set.specs.Tidy.{tidied}
use Rattle.constraint_set.specs.Elimination.{pair_of, step, steps, eliminated}
use Rattle.constraint_set.specs.Reach.{emptiness, valued, greatest_lower, least_upper, reach_of}
use Rattle.nest_domain.specs.Boxes.{Dimension}
use Rattle.nest_domain.specs.Domains.{along, place, row_at, system_of, access}
use Rattle.nest_domain.specs.Ways.{used, uses}
use Rattle.nest_domain.specs.declared.plan.Cause.{Cause}
use Rattle.nest_domain.specs.declared.plan.Cause.TheVariants as cause
use Rattle.nest_domain.specs.declared.plan.Doubling.{Doubling}
use Rattle.nest_domain.specs.declared.plan.Doubling.TheVariants as doubling
use Rattle.nest_domain.specs.declared.plan.Options.{Options}
use Rattle.access_region.specs.Places.{region_of}
use Rattle.access_region.specs.Widening.{shape, widened}
use Rattle.box_covers.specs.Covers.{covers}
use Rattle.dependence.specs.Clashes.{clash, clash_system}
use Rattle.loop_forms.specs.Split.{split_of}
use Rattle.peak_laws.specs.Peak.{peak_of}
use Rattle.placement_texts.specs.Fold.{staged_all}
use Rattle.placement_texts.specs.Spots.{Here, Inside, stage_one}
use Rattle.plan_laws.specs.Limits.{keeps_limits, keeps_intervals}
use Rattle.plan_laws.specs.Plan.{Site, Asked, Planned, Unstaged, Placed, region_at, hoisted_by, hoisted, step_at, tested_in, settled_at, settled_from, with_settled, planned}
use Rattle.plan_laws.specs.Sites.{lined}
use Rattle.plan_numbers.specs.Modules.{A, slow, tiles}
use Rattle.plan_numbers.specs.Law.{tile, staged_tile}
use Rattle.plan_numbers.proofs.Folds.{bounds, spread_parts}
use Rattle.plan_numbers.proofs.Plans.{round, round_is, placement, placed, text}
use Rattle.numbered_names.specs.Numbers.{defined}
use Rattle.ring_plans.specs.Rings.{double_at}
use Rattle.ring_plans.specs.Plan.{Judged, Ringed, clashes, or_else, when, ring_cause, splits, with_cause, with_rings, ringed_from, regions_in, begun, with_doublings, ringed, ring_plan}
use Rattle.ring_numbers.specs.Texts.{three_loops}
use Rattle.ring_numbers.specs.Law.{with_double, wide_tile, two_tiles, RingPlansAre}
use Rattle.ring_numbers.proofs.Rings.{number_const, rings}

abbrev whole : List Dimension
whole = record { coefs = []; offset = pos 0; extent = pos 64; clamped = false } ∷ []

-- ---- the plan before doubling
module _ (capacity : ℕ) where
  abbrev o : Options
  o = with_double 2 capacity

  tile_there : region_at o tiles.args round A (slow 64) (Inside Here) ≡ Ok tile
  unfolding region_of widened shape limited uses used padded minus along place system_of row_at access reach_of emptiness valued greatest_lower least_upper tidied pair_of step steps eliminated same_name put join_forms scale_form number_form variable_form floored_form rest_form raised_form floor_div narrowed combined gcd_of first_turn last_end
  tile_there = simp (overs, bounds, spread_parts) refl

  whole_there : region_at o tiles.args round A (slow 64) Here ≡ Ok whole
  unfolding region_of widened shape limited uses used padded minus along place system_of row_at access reach_of emptiness valued greatest_lower least_upper tidied pair_of step steps eliminated same_name put join_forms scale_form number_form variable_form floored_form rest_form raised_form floor_div narrowed combined gcd_of first_turn last_end
  whole_there = simp (overs, bounds, spread_parts) refl

  step_is : step_at o tiles.args round 0 A (slow 64) (record { at = Inside Here; region = tile }) ≡ placed
  unfolding covers uses same_name
  step_is = refl

  abbrev inner : Site
  inner = record { at = Inside Here; region = tile }

  hoisted_is : hoisted o tiles.args round A (slow 64) 2 (Here ∷ []) inner ≡ inner
  unfolding same_name
  hoisted_is = ap (λ r. hoisted_by o tiles.args round (λ x. x) inner Here r) whole_there

  settles : settled_from o tiles.args round [] A (slow 64) (Inside Here) (region_at o tiles.args round A (slow 64) (Inside Here))
      ≡ tested_in o tiles.args round placed tile round
  unfolding same_name
  settles =
      ap (settled_from o tiles.args round [] A (slow 64) (Inside Here)) tile_there
      ∙ ap (settled_at o tiles.args round [] A (slow 64)) hoisted_is
      ∙ ap (λ x. tested_in o tiles.args round x tile round) step_is

intervals : keeps_intervals tiles.args text ≡ true
unfolding keeps_intervals same_name put floor_div limited first_turn last_end ranges_in has_interval access_bounded set_bounded is_small_dimension
intervals = simp (bounds, spread_parts) refl

within : keeps_limits tiles.args text ≡ true
unfolding keeps_limits same_name put floor_div limited first_turn last_end ranges_in sizes_positive shape_within
within = simp (counts, depth_laws) refl

fits : (capacity : ℕ) → nat_lt capacity 64 ≡ false → tested_in (with_double 2 capacity) tiles.args round placed tile round ≡ Placed placed tile
unfolding same_name
fits capacity h = λ j. if intervals j then (if h j then Unstaged cause.Capacity else (if within j then Placed placed tile else Unstaged cause.Size)) else Unstaged cause.Coefficient

abbrev asked_one : Asked
asked_one = record { block = 0; at = Inside Here; memref = A }

abbrev only : Planned
only = record { steps = placed ∷ []; decisions = staged_tile }

planned_is : (capacity : ℕ) → nat_lt capacity 64 ≡ false → planned (with_double 2 capacity) tiles.args (nest tiles.body) ≡ only
unfolding planned same_name
planned_is capacity h =
    ap (planned (with_double 2 capacity) tiles.args) round_is
    ∙ ap (λ y. with_settled (with_double 2 capacity) tiles.args round asked_one (record { steps = []; decisions = [] }) y) (settles capacity ∙ fits capacity h)

-- ---- its ring
abbrev ring : Nest
ring = double_at 2 (placement ∷ []) Here text

abbrev loops : Nest
loops = three_loops 2 (pos 16) (pos 1) (pos 48) (pos 48)

ring_is : ring ≡ loops
ring_is = sym (ap (λ n. double_at 2 (placement ∷ []) Here (stage_one placement (Inside Here) n)) round_is) ∙ rings.two

loops_bounded : keeps_intervals tiles.args loops ≡ true
unfolding keeps_intervals same_name put floor_div limited first_turn last_end ranges_in has_interval access_bounded set_bounded is_small_dimension
loops_bounded = simp (bounds, spread_parts) refl

loops_within : keeps_limits tiles.args loops ≡ true
unfolding keeps_limits same_name put floor_div limited first_turn last_end ranges_in sizes_positive shape_within
loops_within = simp (counts, depth_laws) refl

ring_intervals : keeps_intervals tiles.args ring ≡ true
ring_intervals = ap (keeps_intervals tiles.args) ring_is ∙ loops_bounded

ring_within : keeps_limits tiles.args ring ≡ true
ring_within = ap (keeps_limits tiles.args) ring_is ∙ loops_within

no_clash : (capacity : ℕ) → clashes (with_double 2 capacity) tiles.args round placed tile Here ≡ None
unfolding clash clash_system place along used padded minus system_of row_at emptiness tidied pair_of step steps eliminated same_name put join_forms scale_form number_form variable_form narrowed combined gcd_of floor_div first_turn last_end
no_clash capacity = refl

it_splits : splits 2 round ≡ true
unfolding same_name floor_div
it_splits = simp number_const refl

-- no cause holds, or the capacity
no_cause : ring_cause (with_double 2 128) tiles.args round [] placed tile Here ring ≡ None
unfolding defined same_name split_of floor_div
no_cause = λ j.
    or_else (when (not (it_splits j && ring_intervals j)) cause.Shape)
    (or_else (no_clash 128 j)
    (or_else (when (nat_lt 128 (peak_of ring 0)) cause.Capacity) (when (not (ring_within j)) cause.Size)))

one_cause : ring_cause (with_double 2 127) tiles.args round [] placed tile Here ring ≡ Some cause.Capacity
unfolding defined same_name split_of floor_div
one_cause = λ j.
    or_else (when (not (it_splits j && ring_intervals j)) cause.Shape)
    (or_else (no_clash 127 j)
    (or_else (when (nat_lt 127 (peak_of ring 0)) cause.Capacity) (when (not (ring_within j)) cause.Size)))

-- ---- the plan
abbrev tile_judged : Doubling → Judged
tile_judged d = record { step = placed; region = tile; doubling = d }

abbrev none_yet : Ringed
none_yet = record { text = text; loops = []; placements = tile_judged (doubling.Single cause.Shape) ∷ [] }

module _ (capacity : ℕ) (few : nat_lt capacity 64 ≡ false) where
  abbrev with_it : Option Cause → Ringed
  with_it c =
      let x = with_cause (with_double 2 capacity) tiles.args round text [] Here (record { rings = []; placements = [] }) (tile_judged (doubling.Single cause.Shape)) c in
      with_rings (with_double 2 capacity) tiles.args round none_yet Here x.rings x.placements

  ringed_is : (c : Option Cause) → ring_cause (with_double 2 capacity) tiles.args round [] placed tile Here ring ≡ c → ringed (with_double 2 capacity) tiles ≡ with_it c
  unfolding ringed same_name
  ringed_is c h =
      ap (λ (p : Planned). ringed_from (with_double 2 capacity) tiles.args (nest tiles.body) (staged_all p.steps (lined (nest tiles.body))) (begun true p.steps (regions_in p.decisions))) (planned_is capacity few)
      ∙ ap (λ n. ringed_from (with_double 2 capacity) tiles.args n (staged_all (placed ∷ []) (lined n)) (tile_judged (doubling.Single cause.Shape) ∷ [])) round_is
      ∙ ap with_it h

  plan_is : (c : Option Cause) → ring_cause (with_double 2 capacity) tiles.args round [] placed tile Here ring ≡ c
      → ring_plan (with_double 2 capacity) tiles ≡ with_doublings staged_tile (map (λ (x : Judged). x.doubling) (with_it c).placements)
  plan_is c h = λ j. with_doublings (planned_is capacity few j).decisions (map (λ (x : Judged). x.doubling) (ringed_is c h j).placements)

two_clash : clashes (with_double 2 128) tiles.args round (two_tiles true) wide_tile Here ≡ Some cause.Dependence
unfolding clash clash_system place along used padded minus system_of row_at emptiness tidied pair_of step steps eliminated same_name put join_forms scale_form number_form variable_form narrowed combined gcd_of floor_div first_turn last_end
two_clash = refl

pub plans : RingPlansAre
unfolding same_name
plans = record {
  doubled = plan_is 128 refl None no_cause;
  text =
      ap (λ (r : Ringed). r.text) (ringed_is 128 refl None no_cause)
      ∙ sym (ap (λ n. double_at 2 (placement ∷ []) Here (stage_one placement (Inside Here) n)) round_is) ∙ rings.two;
  single = plan_is 127 refl (Some cause.Capacity) one_cause;
  single_text = ap (λ (r : Ringed). r.text) (ringed_is 127 refl (Some cause.Capacity) one_cause) ∙ sym (ap (stage_one placement (Inside Here)) round_is);
  next_turn = ap (λ n. clashes (with_double 2 128) tiles.args n (two_tiles true) wide_tile Here) round_is ∙ two_clash;
  only_read = ap (λ n. clashes (with_double 2 128) tiles.args n (two_tiles false) wide_tile Here) round_is;
}
