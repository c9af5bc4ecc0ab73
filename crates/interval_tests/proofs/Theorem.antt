-- The laws: the test of a region is the rule on intervals of the module with this placement alone.
use Rattle.std.proofs.Common.{◌≡◌, ℕ, ◌+◌, ◌*◌, Bool, true, false, cond, List, [], ◌∷◌, ◌++◌, map, fold, Some, None, refl, sym, ap, ◌∙◌, subst}
use Rattle.std.specs.Prelude.{◌&&◌}
use Rattle.constraint_set.specs.Lists.{Each}
use Rattle.affine_expr.specs.Spread.{Range}
use Rattle.affine_ast.specs.declared.module.Arg.{Arg}
use Rattle.affine_ast.specs.declared.module.ArgKind.TheVariants as kind
use Rattle.affine_ast.specs.declared.module.Module.{Module}
use Rattle.affine_ast.specs.declared.name.Name.{Name}
use Rattle.affine_ast.specs.declared.types.MemrefType.{MemrefType}
use Rattle.affine_ast.specs.Intervals.{Ranges, ranges_at, first_turn, last_end, turn_range}
use Rattle.affine_ast.specs.Names.{put}
use Rattle.affine_ast.specs.Nest.{Nest, Nothing, Loop, Branch, Does, nest}
use Rattle.affine_ast.specs.Scope.{Scope, ranges_in, Totals, Around, with_totals, counted, in_loop}
use Rattle.affine_ast.specs.Validity.{Passed, told, rule_of_loop, outside, IsValid}
use Rattle.direct_meaning.specs.Work.{arg_ranges, start_ranges}
use Rattle.valid_laws.proofs.Passing.{judged_passed, then_passed, loop_holds}
use Rattle.valid_laws.proofs.SafeStart.{behind_arguments}
use Rattle.nest_domain.specs.Ways.{Header, Round, Use, Affine, Other}
use Rattle.nest_domain.specs.Boxes as region
use Rattle.place_intervals.specs.Places.{place_ranges, copies_fit}
use Rattle.access_region.specs.Places.{templates_fit, region_fits, kept_where}
use Rattle.placement_texts.specs.Own.{OwnNest}
use Rattle.placement_texts.specs.Regions.{OwnDims}
use Rattle.placement_texts.specs.Spots as spot
use Rattle.placement_texts.specs.Spots.{Spot, Here, IsLoop, staged_at}
use Rattle.placement_texts.specs.Template.{Placement, Copies, slow_type, dim_sizes, begins, begins_from}
use Rattle.placement_texts.specs.Tests.{Argued, loop_scope, scope_at}
use Rattle.placement_texts.specs.Valid.{HasArgument, scope_behind_arguments}
use Rattle.placement_texts.proofs.ScopedTexts.{loop_argued}
use Rattle.placement_texts.proofs.StagedValid.{scope_is, arguments_argued}
use Rattle.placement_regions.specs.Sites.{from_spot, way_to, loop_uses, outer_names, dims_over, IsOfRegion}
use Rattle.placement_regions.proofs.Extents.{AllFit, AllSome, dims_sizes}
use Rattle.placement_regions.proofs.Theorem.{opens, argument_sizes}
use Rattle.plan_validity.proofs.Numbers.{argument_small}
use Rattle.staged_plans.specs.Plans.{how_over}
use Rattle.staged_plans.proofs.Owned.{argument_space, placement_dims}
use Rattle.plan_laws.specs.Limits.{keeps_intervals}
use Rattle.placed_intervals.specs.Fits.{CopiesFit, LessFit, Sized}
use Rattle.placed_intervals.proofs.Scopes.{loop_agrees}
use Rattle.placed_intervals.proofs.Places.{all_sized, all_small}
use Rattle.placed_intervals.proofs.Known.{end, UseFits, outer_long}
use Rattle.placed_intervals.proofs.Redirects.{made_put}
use Rattle.placed_intervals.proofs.Reached.{ranges_loop, ranges_arguments, nothing_ranges, further, text_fits, reached, region_fits_there}
use Rattle.placed_intervals.proofs.Staged.{staged_bounded}
use Rattle.placed_intervals.proofs.Law.{told_bounded, module_keeps}
use Rattle.interval_tests.specs.Law.{IsAlone, TestIsRule, RefusedBefore}
use Rattle.interval_tests.proofs.Backward.{NumbersInside}
use Rattle.interval_tests.proofs.Unblock.{PlacesGive, begins_along}
use Rattle.interval_tests.proofs.Places.{places_given, copies_given}
use Rattle.interval_tests.proofs.Unstaged.{LoopBack, staged_back}
use Rattle.interval_tests.proofs.Bodies.{body_gives}
use Rattle.interval_tests.proofs.Uses.{text_uses, uses_given}
use Rattle.interval_tests.proofs.Boxed.{Box, box_parts, refused_so, long_over}

pub refused_before : RefusedBefore
refused_before args n m s sizes dma e h = refused_so args (way_to s n) (loop_uses m (way_to s n) (from_spot s n)) sizes dma e h

-- each where the other
both_ways : (a b : Bool) → (a ≡ true → b ≡ true) → (b ≡ true → a ≡ true) → a ≡ b
both_ways true b f g = sym (f refl)
both_ways false true f g = g refl
both_ways false false f g = refl

-- without places nothing is asked of subscripts
less_nothing : (es : List Range) → LessFit es []
less_nothing [] = tt
less_nothing (e ∷ es) = tt

nothing_asked : (args : List Arg) (us : List Use) → Each (UseFits args []) us
nothing_asked args [] = tt
nothing_asked args (Affine way stores at ∷ us) = (less_nothing (ranges_at (end args way) at), nothing_asked args us)
nothing_asked args (Other ∷ us) = (tt, nothing_asked args us)

own_from : (own : Name → Bool) (x : Spot) (n : Nest) → OwnNest own n → OwnNest own (from_spot x n)
own_from own Here n o = o
own_from own (spot.Behind x) Nothing o = tt
own_from own (spot.Behind x) (Loop line v l u step body rest) o = own_from own x rest o.4
own_from own (spot.Behind x) (Branch line set ns first has other rest) o = own_from own x rest o.3
own_from own (spot.Behind x) (Does line q rest) o = own_from own x rest o.1
own_from own (spot.Inside x) Nothing o = tt
own_from own (spot.Inside x) (Loop line v l u step body rest) o = own_from own x body o.3
own_from own (spot.Inside x) (Branch line set ns first has other rest) o = own_from own x first o.1
own_from own (spot.Inside x) (Does line q rest) o = tt
own_from own (spot.Other x) Nothing o = tt
own_from own (spot.Other x) (Loop line v l u step body rest) o = tt
own_from own (spot.Other x) (Branch line set ns first has other rest) o = own_from own x other o.2
own_from own (spot.Other x) (Does line q rest) o = tt

-- the copies, where they are loops
copies_so : (dma : Bool) (ns : List Name) (p : Placement) (ds : List region.Dimension) (sizes : List ℕ) (rs : List Range) → p.how ≡ how_over dma p.dims → p.dims ≡ dims_over ns ds sizes → AllFit ds sizes
    → CopiesFit p.how p.dims rs → cond dma true (copies_fit ds rs) ≡ true
copies_so true ns p ds sizes rs how dims fit h = refl
copies_so false ns p ds sizes rs how dims fit h = copies_given ns ds sizes rs fit (subst (λ x. CopiesFit Copies x rs) dims (subst (λ x. CopiesFit x p.dims rs) how h))

module _ (m : Module) (valid : IsValid m) (own : Name → Bool) (p : Placement) (ty : MemrefType) (s : Spot) (dma : Bool) (ds : List region.Dimension) (r : IsAlone own m.args (nest m.body) p ty s dma ds) where
  abbrev n : Nest
  n = nest m.body

  abbrev args : List Arg
  args = m.args

  abbrev w : List Header
  w = way_to s n

  abbrev us : List Use
  us = loop_uses p.memref w (from_spot s n)

  abbrev outer : List Name
  outer = outer_names args w

  abbrev start : Scope
  start = scope_behind_arguments args (λ n. None)

  box : Box args w us ty.sizes dma ds
  box = box_parts args w us ty.sizes dma ds r.is

  sizes_some : AllSome ty.sizes
  sizes_some = argument_sizes args outside p.memref ty (opens m valid).arguments r.memref

  extents : AllFit ds ty.sizes
  extents = box.fit sizes_some

  type_is : slow_type p ≡ ty
  type_is =
      let space = argument_space args outside p.memref ty (opens m valid).arguments r.memref in
      λ i. record { sizes = (ap dim_sizes r.dims ∙ dims_sizes outer ds ty.sizes extents) i; element = r.element i; space = sym space i }

  sized : Sized p.dims
  sized = subst Sized (sym r.dims) (all_sized outer ds ty.sizes extents (all_small ty.sizes sizes_some (argument_small args outside p.memref ty (opens m valid).arguments r.memref)))

  owns : OwnDims own p.dims
  owns = subst (OwnDims own) (sym r.dims) (placement_dims own args s n ds ty.sizes r.own_arguments r.own_text)

  abbrev Test : Bool
  Test = region_fits (map (end args w) outer) box.xs ty.sizes dma ds

  -- ---- a region that passes its test keeps to the rule
  passes : Test ≡ true → keeps_intervals args (staged_at p s n) ≡ true
  unfolding keeps_intervals
  passes h =
      let of_region : IsOfRegion args n p ty s dma = record { loop = r.loop; memref = r.memref; region = ds; is = box.tested ∙ ap (λ b. kept_where b ds) h; dims = r.dims } in
      let f = region_fits_there m valid p ty s dma of_region type_is r.how in
      staged_bounded own p r.names f.0 owns s n start start (λ n o. refl) r.own_text (module_keeps m valid (λ n. 0) [] false) f.1

  -- ---- and one whose text keeps to the rule passes
  record Tested (b : Scope) (here : Nest) : Type 0 where
    places : List Range
    gives : PlacesGive b p.dims places
    copies : CopiesFit p.how p.dims places
    numbers : NumbersInside (begins p) places
    uses_ : Each (UseFits args places) (loop_uses p.memref w here)

  loop_tested : (here : Nest) (b : Around) (t : Totals) → IsLoop Here here → told here b ≡ Passed t → ranges_in b.scope ≡ end args w → Argued p b → OwnNest own here → LoopBack own p r.names sized r.moves owns here b.scope → Tested b.scope here
  unfolding told
  loop_tested Nothing b t is h known argued o back = absurd is
  loop_tested (Branch line set names first has other rest) b t is h known argued o back = absurd is
  loop_tested (Does line q rest) b t is h known argued o back = absurd is
  loop_tested (Loop line v l u step body rest) b t is h known argued o back =
      let j = judged_passed line (rule_of_loop (counted b) v l u step) _ t h in
      let c = then_passed (told body (in_loop v l u (counted b))) (λ t. told rest (with_totals t b)) t j.1 in
      let within = w ++ Round v l u step ∷ [] in
      let inner = in_loop v l u (counted b) in
      let there = further args p [] w (Round v l u step) _ (ranges_loop b.scope v l u ∙ (λ i. put (known i) v (turn_range (first_turn (known i) l) (last_end (known i) u)))) in
      let shaped = text_fits args p [] body inner c.0 within c.1 there (loop_argued p b v l u (loop_holds (counted b) v l u step j.0).new_name argued) (nothing_asked args (loop_uses p.memref w (Loop line v l u step body rest))) in
      let fits = body_gives own p r.names sized back.ranges body (loop_scope v l u b.scope) (loop_scope v l u back.after) (loop_agrees own b.scope back.after back.agrees v l u o.1 o.2) o.3 (told_bounded body inner c.0 c.1) shaped
      (begins_along own p r.names sized 0 p.dims back.ranges back.after (loop_scope v l u back.after) (λ d. made_put own p r.names back.ranges back.after v _ o.0 (7 + 4 * d)) back.begun) back.body_ in
      record {
        places = back.ranges;
        gives = back.gives;
        copies = back.gains.0;
        numbers = back.gains.1;
        uses_ = text_uses args p back.ranges body inner c.0 within c.1 there fits;
      }

  tested : keeps_intervals args (staged_at p s n) ≡ true → Test ≡ true
  unfolding keeps_intervals
  tested h =
      let o = opens m valid in
      let a = behind_arguments args outside in
      let begin_ : ranges_in a.scope ≡ start_ranges args = ranges_arguments args outside o.arguments ∙ ap (λ (rho : Ranges). fold arg_ranges rho args) nothing_ranges in
      let argued : Argued p a = arguments_argued p args outside o.arguments refl (subst (λ y. HasArgument args p.memref (kind.Memref y)) (sym type_is) r.memref) in
      let there = reached args p [] s n a o.totals (start_ranges args) o.passed r.loop begin_ argued in
      let scope_ : there.around.scope ≡ scope_at s n start = there.scope ∙ ap (scope_at s n) (scope_is args outside) in
      let back = subst (λ x. LoopBack own p r.names sized r.moves owns (from_spot s n) x) (sym scope_) (staged_back own p r.names sized r.moves owns s n start r.loop h) in
      let t = loop_tested (from_spot s n) there.around there.totals there.loop there.passed there.ranges there.argued (own_from own s n r.own_text) back in
      let are : place_ranges (map (end args w) outer) ty.sizes ds ≡ Some t.places =
      ap (λ (rho : Ranges). place_ranges (map rho outer) ty.sizes ds) (sym there.ranges)
      ∙ places_given there.around.scope p.name 0 outer ds ty.sizes t.places (long_over args w us ty.sizes dma (outer_long args w) ds box.long) extents (subst (λ x. PlacesGive there.around.scope x t.places) r.dims t.gives)
      (subst (λ x. NumbersInside (begins_from p.name 0 x) t.places) r.dims t.numbers) in
      ap (templates_fit dma ds box.xs) are
      ∙ (λ i. copies_so dma outer p ds ty.sizes t.places r.how r.dims extents t.copies i && uses_given args p t.places us box.xs box.are t.uses_ i)

pub test_is_rule : TestIsRule
test_is_rule m valid own p ty s dma ds r =
    (box m valid own p ty s dma ds r).tested
    ∙ ap (λ b. kept_where b ds) (both_ways (Test m valid own p ty s dma ds r) (keeps_intervals m.args (staged_at p s (nest m.body))) (passes m valid own p ty s dma ds r) (tested m valid own p ty s dma ds r))
