-- The plans of tiles that are stored to only, by computing.
use Rattle.std.proofs.Common.{◌≡◌, refl, ap, ◌∙◌, sym, ℕ, List, pos, [], ◌∷◌, true, false}
use Rattle.std.specs.Prelude.{Ok, None, nat_lt, not, ◌&&◌, map, if◌then◌else◌, Option, Some}
use Rattle.num_row.specs.Ints.{narrowed, combined}
use Rattle.num_row.specs.Divisors.{gcd_of}
use Rattle.affine_expr.specs.Bounded.{limited}
use Rattle.affine_expr.specs.Value.{floor_div}
use Rattle.affine_expr.specs.Linear.{join_forms, scale_form, number_form, variable_form, padded, minus, floored_form, rest_form, raised as raised_form}
use Rattle.affine_expr.proofs.Overs.{overs}
use Rattle.affine_ast.specs.Intervals.{first_turn, last_end}
use Rattle.affine_ast.specs.Names.{same_name, put}
use Rattle.affine_ast.specs.declared.module.Arg.{Arg}
use Rattle.affine_ast.specs.declared.types.Bound.TheVariants as bound
use Rattle.affine_ast.specs.declared.types.Element.TheVariants.{I32}
use Rattle.affine_ast.specs.declared.types.Scalar.TheVariants as scalar
use Rattle.affine_ast.proofs.Nests.{nests}
use Rattle.affine_expr.specs.declared.expr.Expr.{Dim, Const, Add}
use Rattle.affine_ast.specs.Nest.{Nest, Nothing, Loop, Does, Load, Store, Constant, Return, nest}
use Rattle.affine_ast.specs.Rules.{has_interval, access_bounded, set_bounded, is_small_dimension, sizes_positive, shape_within}
use Rattle.affine_ast.specs.Scope.{ranges_in}
use Rattle.affine_ast.proofs.PlainLaws.{counts, depth_laws}
use Rattle.constraint_set.specs.Tidy.{tidied}
use Rattle.constraint_set.specs.Elimination.{pair_of, step, steps, eliminated}
use Rattle.constraint_set.specs.Reach.{emptiness, valued, greatest_lower, least_upper, reach_of}
use Rattle.nest_domain.specs.Boxes.{Dimension}
use Rattle.nest_domain.specs.Domains.{along, place, row_at, system_of, access}
use Rattle.nest_domain.specs.Ways.{used, uses}
use Rattle.nest_domain.specs.declared.plan.Cause.{Cause}
use Rattle.nest_domain.specs.declared.plan.Cause.TheVariants as cause
use Rattle.nest_domain.specs.declared.plan.Doubling.TheVariants as doubling
use Rattle.nest_domain.specs.declared.plan.Options.{Options}
use Rattle.access_region.specs.Places.{region_of}
use Rattle.access_region.specs.Widening.{shape, widened}
use Rattle.box_covers.specs.Covers.{covers}
use Rattle.placement_covers.specs.Law.{is_covered}
use Rattle.dependence.specs.Clashes.{clash, clash_system}
use Rattle.loop_forms.specs.Split.{split_of}
use Rattle.peak_laws.specs.Peak.{peak_of}
use Rattle.placement_texts.specs.Fold.{Step, staged_all}
use Rattle.placement_texts.specs.Spots.{Here, Inside, stage_one}
use Rattle.plan_laws.specs.Limits.{keeps_limits, keeps_intervals}
use Rattle.plan_laws.specs.Plan.{Site, Asked, Planned, Unstaged, Placed, region_at, hoisted_by, hoisted, step_at, tested_in, settled_at, settled_from, with_settled, planned}
use Rattle.plan_laws.specs.Sites.{lined}
use Rattle.plan_numbers.specs.Modules.{A, it, i, loaded, c, at, slow}
use Rattle.plan_numbers.specs.Law.{tile}
use Rattle.plan_numbers.proofs.Folds.{bounds, spread_parts}
use Rattle.numbered_names.specs.Numbers.{defined}
use Rattle.ring_plans.specs.Rings.{double_at}
use Rattle.ring_plans.specs.Plan.{Judged, InLoop, Ringed, clashes, or_else, when, ring_cause, splits, with_cause, with_rings, ringed_from, regions_in, begun, with_doublings, ringed, ring_plan}
use Rattle.ring_numbers.specs.Placements.{tile_of}
use Rattle.ring_numbers.specs.Texts.{sevens, sevens_read, last_number}
use Rattle.ring_numbers.specs.Law.{with_double, outward_decided, OutwardPlansAre}
use Rattle.ring_numbers.proofs.Rings.{number_const, behind_const, rings}

abbrev o : Options
o = with_double 2 128

abbrev inner : Site
inner = record { at = Inside Here; region = tile }

abbrev asked_one : Asked
asked_one = record { block = 0; at = Inside Here; memref = A }

abbrev no_rings : InLoop
no_rings = record { rings = []; placements = [] }

abbrev judged_first : Step → Judged
judged_first x = record { step = x; region = tile; doubling = doubling.Single cause.Shape }

abbrev placed : ℕ → Step
placed size = record { placement = tile_of size false; spot = Inside Here; order = 0; first = 0 }

abbrev only : ℕ → Planned
only size = record { steps = placed size ∷ []; decisions = outward_decided doubling.NotAsked }

-- a text of which a plan has the one placement, and the loop at its first place then a ring
module _ (args : List Arg) (n : Nest) (size : ℕ) where
  abbrev so_far : Ringed
  so_far = record { text = stage_one (tile_of size false) (Inside Here) n; loops = []; placements = judged_first (placed size) ∷ [] }

  abbrev with_it : Option Cause → Ringed
  with_it c =
      let x = with_cause o args n so_far.text [] Here no_rings (judged_first (placed size)) c in
      with_rings o args n so_far Here x.rings x.placements

-- ---- sevens
abbrev sevens_text : Nest
sevens_text =
    Loop 2 it (bound.Int (pos 0)) (bound.Int (pos 64)) (pos 16)
    (Loop 3 i (bound.Map (at (Dim 0) it)) (bound.Map (at (Add (Dim 0) (Const (pos 16))) it)) (pos 1)
    (Does 4 (Constant c (pos 7) (scalar.Int I32))
    (Does 5 (Store c A (at (Dim 0) i) (slow 64)) Nothing)) Nothing)
    (Does 10 Return Nothing)

sevens_text_is : nest sevens.body ≡ sevens_text
sevens_text_is = simp nests refl

sevens_tile_there : region_at o sevens.args sevens_text A (slow 64) (Inside Here) ≡ Ok tile
unfolding region_of widened shape limited uses used padded minus along place system_of row_at access reach_of emptiness valued greatest_lower least_upper tidied pair_of step steps eliminated same_name put join_forms scale_form number_form variable_form floored_form rest_form raised_form floor_div narrowed combined gcd_of first_turn last_end
sevens_tile_there = simp (overs, bounds, spread_parts) refl

abbrev whole : List Dimension
whole = record { coefs = []; offset = pos 0; extent = pos 64; clamped = false } ∷ []

whole_there : region_at o sevens.args sevens_text A (slow 64) Here ≡ Ok whole
unfolding region_of widened shape limited uses used padded minus along place system_of row_at access reach_of emptiness valued greatest_lower least_upper tidied pair_of step steps eliminated same_name put join_forms scale_form number_form variable_form floored_form rest_form raised_form floor_div narrowed combined gcd_of first_turn last_end
whole_there = simp (overs, bounds, spread_parts) refl

hoisted_is : hoisted o sevens.args sevens_text A (slow 64) 1 (Here ∷ []) inner ≡ inner
unfolding same_name
hoisted_is = ap (λ r. hoisted_by o sevens.args sevens_text (λ x. x) inner Here r) whole_there

sevens_covered : is_covered sevens.args sevens_text A (Inside Here) tile ≡ true
unfolding covers uses used floored_form rest_form raised_form limited first_turn last_end access row_at narrowed combined padded minus same_name put join_forms scale_form number_form variable_form floor_div gcd_of
sevens_covered = simp overs refl

sevens_step : step_at o sevens.args sevens_text 0 A (slow 64) inner ≡ placed 64
unfolding uses same_name
sevens_step = λ j. record {
  placement = record (placed 64).placement { reads = not (true && sevens_covered j) };
  spot = Inside Here;
  order = 0;
  first = 0;
}

abbrev sevens_staged : Nest
sevens_staged = stage_one (tile_of 64 false) (Inside Here) sevens_text

sevens_intervals : keeps_intervals sevens.args sevens_staged ≡ true
unfolding keeps_intervals same_name put floor_div limited first_turn last_end ranges_in has_interval access_bounded set_bounded is_small_dimension
sevens_intervals = simp (bounds, spread_parts) refl

sevens_within : keeps_limits sevens.args sevens_staged ≡ true
unfolding keeps_limits same_name put floor_div limited first_turn last_end ranges_in sizes_positive shape_within
sevens_within = simp (counts, depth_laws) refl

sevens_fits : tested_in o sevens.args sevens_text (placed 64) tile sevens_text ≡ Placed (placed 64) tile
unfolding same_name
sevens_fits = λ j. if sevens_intervals j then (if nat_lt 128 (peak_of sevens_staged 0) then Unstaged cause.Capacity else (if sevens_within j then Placed (placed 64) tile else Unstaged cause.Size)) else Unstaged cause.Coefficient

sevens_settles : settled_from o sevens.args sevens_text [] A (slow 64) (Inside Here) (region_at o sevens.args sevens_text A (slow 64) (Inside Here)) ≡ Placed (placed 64) tile
unfolding same_name
sevens_settles =
    ap (settled_from o sevens.args sevens_text [] A (slow 64) (Inside Here)) sevens_tile_there
    ∙ ap (settled_at o sevens.args sevens_text [] A (slow 64)) hoisted_is ∙ ap (λ x. tested_in o sevens.args sevens_text x tile sevens_text) sevens_step ∙ sevens_fits

sevens_planned : planned o sevens.args (nest sevens.body) ≡ only 64
unfolding planned same_name
sevens_planned =
    ap (planned o sevens.args) sevens_text_is
    ∙ ap (λ y. with_settled o sevens.args sevens_text asked_one (record { steps = []; decisions = [] }) y) sevens_settles

abbrev sevens_ring : Nest
sevens_ring = double_at 2 (tile_of 64 false ∷ []) Here sevens_staged

sevens_ring_intervals : keeps_intervals sevens.args sevens_ring ≡ true
unfolding defined split_of keeps_intervals same_name put floor_div limited first_turn last_end ranges_in has_interval access_bounded set_bounded is_small_dimension
sevens_ring_intervals = simp (bounds, spread_parts, number_const, behind_const) refl

sevens_splits : splits 2 sevens_text ≡ true
unfolding same_name floor_div
sevens_splits = simp number_const refl

ring_within : keeps_limits sevens.args sevens_ring ≡ true
unfolding defined split_of keeps_limits same_name put floor_div limited first_turn last_end ranges_in sizes_positive shape_within
ring_within = simp (counts, depth_laws, number_const, behind_const) refl

no_clash : clashes o sevens.args sevens_text (placed 64) tile Here ≡ None
unfolding clash clash_system place along used padded minus system_of row_at emptiness tidied pair_of step steps eliminated same_name put join_forms scale_form number_form variable_form narrowed combined gcd_of floor_div first_turn last_end
no_clash = refl

ring_bytes : peak_of sevens_ring 0 ≡ 128
unfolding defined same_name split_of floor_div
ring_bytes = refl

no_cause : ring_cause o sevens.args sevens_text [] (placed 64) tile Here sevens_ring ≡ None
unfolding same_name
no_cause = λ j.
    or_else (when (not (sevens_splits j && sevens_ring_intervals j)) cause.Shape)
    (or_else (no_clash j)
    (or_else (when (nat_lt 128 (ring_bytes j)) cause.Capacity) (when (not (ring_within j)) cause.Size)))

sevens_ringed : ringed o sevens ≡ with_it sevens.args sevens_text 64 (None)
unfolding ringed same_name
sevens_ringed =
    ap (λ (p : Planned). ringed_from o sevens.args (nest sevens.body) (staged_all p.steps (lined (nest sevens.body))) (begun true p.steps (regions_in p.decisions))) sevens_planned
    ∙ ap (λ n. ringed_from o sevens.args n (staged_all (placed 64 ∷ []) (lined n)) (judged_first (placed 64) ∷ [])) sevens_text_is
    ∙ ap (with_it sevens.args sevens_text 64) no_cause

sevens_plan : ring_plan o sevens ≡ with_doublings (outward_decided doubling.NotAsked) (map (λ (x : Judged). x.doubling) (with_it sevens.args sevens_text 64 (None)).placements)
sevens_plan = λ j. with_doublings (sevens_planned j).decisions (map (λ (x : Judged). x.doubling) (sevens_ringed j).placements)

-- ---- sevens_read
abbrev read_text : Nest
read_text =
    Loop 2 it (bound.Int (pos 0)) (bound.Int (pos 64)) (pos 16)
    (Loop 3 i (bound.Map (at (Dim 0) it)) (bound.Map (at (Add (Dim 0) (Const (pos 16))) it)) (pos 1)
    (Does 4 (Constant c (pos 7) (scalar.Int I32))
    (Does 5 (Store c A (at (Dim 0) i) (slow 65)) Nothing)) (Does 7 (Load loaded A last_number (slow 65)) Nothing))
    (Does 10 Return Nothing)

read_text_is : nest sevens_read.body ≡ read_text
read_text_is = simp nests refl

read_tile_there : region_at o sevens_read.args read_text A (slow 65) (Inside Here) ≡ Ok tile
unfolding region_of widened shape limited uses used padded minus along place system_of row_at access reach_of emptiness valued greatest_lower least_upper tidied pair_of step steps eliminated same_name put join_forms scale_form number_form variable_form floored_form rest_form raised_form floor_div narrowed combined gcd_of first_turn last_end
read_tile_there = simp (overs, bounds, spread_parts) refl

read_covered : is_covered sevens_read.args read_text A (Inside Here) tile ≡ true
unfolding covers uses used floored_form rest_form raised_form limited first_turn last_end access row_at narrowed combined padded minus same_name put join_forms scale_form number_form variable_form floor_div gcd_of
read_covered = simp overs refl

read_step : step_at o sevens_read.args read_text 0 A (slow 65) inner ≡ placed 65
unfolding uses same_name
read_step = λ j. record {
  placement = record (placed 65).placement { reads = not (true && read_covered j) };
  spot = Inside Here;
  order = 0;
  first = 0;
}

abbrev read_staged : Nest
read_staged = stage_one (tile_of 65 false) (Inside Here) read_text

read_intervals : keeps_intervals sevens_read.args read_staged ≡ true
unfolding keeps_intervals same_name put floor_div limited first_turn last_end ranges_in has_interval access_bounded set_bounded is_small_dimension
read_intervals = simp (bounds, spread_parts) refl

read_within : keeps_limits sevens_read.args read_staged ≡ true
unfolding keeps_limits same_name put floor_div limited first_turn last_end ranges_in sizes_positive shape_within
read_within = simp (counts, depth_laws) refl

read_fits : tested_in o sevens_read.args read_text (placed 65) tile read_text ≡ Placed (placed 65) tile
unfolding same_name
read_fits = λ j. if read_intervals j then (if nat_lt 128 (peak_of read_staged 0) then Unstaged cause.Capacity else (if read_within j then Placed (placed 65) tile else Unstaged cause.Size)) else Unstaged cause.Coefficient

read_settles : settled_from o sevens_read.args read_text [] A (slow 65) (Inside Here) (region_at o sevens_read.args read_text A (slow 65) (Inside Here)) ≡ Placed (placed 65) tile
unfolding same_name
read_settles =
    ap (settled_from o sevens_read.args read_text [] A (slow 65) (Inside Here)) read_tile_there
    ∙ ap (λ x. tested_in o sevens_read.args read_text x tile read_text) read_step ∙ read_fits

read_planned : planned o sevens_read.args (nest sevens_read.body) ≡ only 65
unfolding planned same_name
read_planned =
    ap (planned o sevens_read.args) read_text_is
    ∙ ap (λ y. with_settled o sevens_read.args read_text asked_one (record { steps = []; decisions = [] }) y) read_settles

abbrev read_ring : Nest
read_ring = double_at 2 (tile_of 65 false ∷ []) Here read_staged

read_ring_intervals : keeps_intervals sevens_read.args read_ring ≡ true
unfolding defined split_of keeps_intervals same_name put floor_div limited first_turn last_end ranges_in has_interval access_bounded set_bounded is_small_dimension
read_ring_intervals = simp (bounds, spread_parts, number_const, behind_const) refl

read_splits : splits 2 read_text ≡ true
unfolding same_name floor_div
read_splits = simp number_const refl

used_outside : ring_cause o sevens_read.args read_text [] (placed 65) tile Here read_ring ≡ Some cause.Dependence
unfolding same_name
used_outside = λ j.
    or_else (when (not (read_splits j && read_ring_intervals j)) cause.Shape)
    (or_else (Some cause.Dependence)
    (or_else (clashes o sevens_read.args read_text (placed 65) tile Here)
    (or_else (when (nat_lt 128 (peak_of read_ring 0)) cause.Capacity) (when (not (keeps_limits sevens_read.args read_ring)) cause.Size))))

read_ringed : ringed o sevens_read ≡ with_it sevens_read.args read_text 65 (Some cause.Dependence)
unfolding ringed same_name
read_ringed =
    ap (λ (p : Planned). ringed_from o sevens_read.args (nest sevens_read.body) (staged_all p.steps (lined (nest sevens_read.body))) (begun true p.steps (regions_in p.decisions))) read_planned
    ∙ ap (λ n. ringed_from o sevens_read.args n (staged_all (placed 65 ∷ []) (lined n)) (judged_first (placed 65) ∷ [])) read_text_is
    ∙ ap (with_it sevens_read.args read_text 65) used_outside

read_plan : ring_plan o sevens_read ≡ with_doublings (outward_decided doubling.NotAsked) (map (λ (x : Judged). x.doubling) (with_it sevens_read.args read_text 65 (Some cause.Dependence)).placements)
read_plan = λ j. with_doublings (read_planned j).decisions (map (λ (x : Judged). x.doubling) (read_ringed j).placements)

pub outward_plans : OutwardPlansAre
unfolding same_name
outward_plans = record {
  doubled = sevens_plan;
  text =
      ap (λ (r : Ringed). r.text) sevens_ringed
      ∙ sym (ap (λ n. double_at 2 (tile_of 64 false ∷ []) Here (stage_one (tile_of 64 false) (Inside Here) n)) sevens_text_is) ∙ rings.outward;
  single = read_plan;
}
