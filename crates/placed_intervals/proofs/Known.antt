-- What a region's test on intervals says: of the places, and of each access, under the intervals of the text.
use Rattle.std.proofs.Common.{◌≡◌, ℕ, ◌+◌, Bool, true, false, cond, List, [], ◌∷◌, ◌++◌, length, map, take, drop, fold, Result, Ok, Err, Option, Some, None, ℤ, refl, sym, ap, ◌∙◌, subst, arith, length-append}
use Rattle.std.proofs.lemmas.Bool.{and_parts}
use Rattle.constraint_set.specs.Lists.{Each}
use Rattle.affine_expr.specs.declared.linear.LinearFault.{LinearFault}
use Rattle.affine_expr.specs.declared.map.Set.{Set}
use Rattle.affine_expr.specs.Forms.{LocalForm}
use Rattle.affine_expr.specs.Linear as linear
use Rattle.affine_expr.specs.Linear.{variable_form, number_form, minus}
use Rattle.affine_expr.specs.Spread.{Range}
use Rattle.affine_expr.proofs.FormValues as forms
use Rattle.affine_ast.specs.declared.module.Arg.{Arg}
use Rattle.affine_ast.specs.declared.module.ArgKind.{ArgKind}
use Rattle.affine_ast.specs.declared.module.ArgKind.TheVariants.{Memref, Index}
use Rattle.affine_ast.specs.declared.name.Name.{Name}
use Rattle.affine_ast.specs.declared.types.Access.{Access}
use Rattle.affine_ast.specs.declared.types.Bound.{Bound}
use Rattle.affine_ast.specs.Intervals.{Ranges, range_or, ranges_at, first_turn, last_end, turn_range}
use Rattle.affine_ast.specs.Names.{put}
use Rattle.direct_meaning.specs.Work.{arg_ranges, ranges_after, start_ranges}
use Rattle.nest_domain.specs.Ways.{Header, Round, Given, Except, Behind, Past, Use, Affine, Other, used, loop_count, loop_names}
use Rattle.nest_domain.specs.Forms.{all_floor_rows}
use Rattle.nest_domain.specs.Domains.{Known, Accessed, operand_forms, map_forms, bound_forms, all_from, upper_rows, set_rows, with_divisions, in_loop, in_condition, formed_behind, behind_plain, along, symbol_count, symbol_names, names_of, count_of, with_kind, with_arguments, nothing_known, place, access}
use Rattle.nest_domain.specs.Boxes.{Dimension}
use Rattle.nest_domain.specs.Ready.{ranges_along, ranges_at_end}
use Rattle.place_intervals.specs.Places.{place_ranges, copies_fit, subscripts_fit}
use Rattle.access_region.specs.Faults.{◌>>=◌, by_form, unplaced}
use Rattle.access_region.specs.Candidates.{Reaching}
use Rattle.access_region.specs.Regions.{has_other, all_reaching, reaching, Outside, outside_at, dimensions}
use Rattle.access_region.specs.Widening.{for_transfers}
use Rattle.access_region.specs.Places.{accesses_fit, templates_fit, region_fits, kept_where, region_of}
use Rattle.access_region.proofs.Inside.{Gives, on, then_by}
use Rattle.access_region.proofs.Lengths.{regions_are_over}
use Rattle.access_region.proofs.Regioned.{IsReaching, AreOf, formed_is}
use Rattle.placement_regions.specs.Sites.{outer_names}
use Rattle.placed_intervals.specs.Fits.{LessFit}
use Rattle.placed_intervals.proofs.Places.{AllLong, less_fit}

-- ---- the intervals that are known at a place are those along its way
step : {A B : Type 0} (w : Result A LinearFault) (f : A → Result B LinearFault) (Q : B → Type 0) → ((x : A) → forms.Gives (f x) Q) → forms.Gives (linear.◌>>=◌ w f) Q
step (Ok x) f Q h = h x
step (Err e) f Q h = tt

abbrev HasRanges : Ranges → Known → Type 0
HasRanges rho k = k.ranges ≡ rho

divided : (ls : List LocalForm) (k : Known) (rho : Ranges) → k.ranges ≡ rho → forms.Gives (with_divisions ls k) (HasRanges rho)
divided ls k rho e = step (all_floor_rows ls) _ (HasRanges rho) (λ rows. e)

in_turn : (v : Name) (l u : Bound) (s : ℤ) (k : Known) → forms.Gives (in_loop v l u s k) (HasRanges (put k.ranges v (turn_range (first_turn k.ranges l) (last_end k.ranges u))))
in_turn v l u s k =
    let rho = put k.ranges v (turn_range (first_turn k.ranges l) (last_end k.ranges u)) in
    step (bound_forms k.forms k.next l []) _ (HasRanges rho) (λ low. step (bound_forms k.forms k.next u low.locals) _ (HasRanges rho) (λ high.
    step (all_from (variable_form k.next k.outer) low.forms) _ (HasRanges rho) (λ below. step (upper_rows low.forms s (variable_form k.next k.outer) high.forms) _ (HasRanges rho) (λ above. divided high.locals _ rho refl))))

where_given : (set : Set) (names : List Name) (k : Known) → forms.Gives (in_condition set names k) (HasRanges k.ranges)
where_given set names k = step (operand_forms k.forms names) _ (HasRanges k.ranges) (λ fs. step (set_rows k.next (take set.dims fs) (drop set.dims fs) set.rows []) _ (HasRanges k.ranges) (λ rows. divided rows.locals _ k.ranges refl))

module _ (hs : List Header) (own : List Name) where
  and_along : (w : Result Known LinearFault) (rho : Ranges) → forms.Gives w (HasRanges rho) → ((g : Known) → forms.Gives (along hs own g) (HasRanges (ranges_at_end hs g.ranges))) → forms.Gives (linear.◌>>=◌ w (along hs own)) (HasRanges (ranges_at_end hs rho))
  and_along w rho h more = forms.then w (along hs own) (HasRanges rho) (HasRanges (ranges_at_end hs rho)) h (λ g e. subst (λ (r : Ranges). forms.Gives (along hs own g) (HasRanges (ranges_at_end hs r))) e (more g))

all_along : (hs : List Header) (own : List Name) (k : Known) → forms.Gives (along hs own k) (HasRanges (ranges_at_end hs k.ranges))
unfolding along
all_along [] own k = refl
all_along (Round v l u s ∷ hs) own k = and_along hs own (in_loop v l u s k) (ranges_along (Round v l u s) k.ranges) (in_turn v l u s k) (all_along hs own)
all_along (Given set names ∷ hs) own k = and_along hs own (in_condition set names k) k.ranges (where_given set names k) (all_along hs own)
all_along (Except set names first ∷ hs) own k = all_along hs own k
all_along (Behind p ∷ hs) own k = and_along hs own (behind_plain p (used hs own) k) (ranges_after p k.ranges) (step (formed_behind p (used hs own) k) _ (HasRanges (ranges_after p k.ranges)) (λ g. refl)) (all_along hs own)
all_along (Past n ∷ hs) own k = all_along hs own k

kind_known : (kind : ArgKind) (name : Name) (line : ℕ) (k : Known) → forms.Gives (with_kind kind name k) (HasRanges (arg_ranges k.ranges (record { name = name; kind = kind; line = line })))
kind_known (Memref ty) name line k = refl
kind_known (Index range) name line k =
    step (minus (variable_form k.next k.outer) (number_form 0 (range_or range).least)) _ _ (λ low. step (minus (number_form 0 (range_or range).greatest) (variable_form k.next k.outer)) _ _ (λ high. refl))

arguments_known : (args : List Arg) (k : Known) → forms.Gives (with_arguments args k) (HasRanges (fold arg_ranges k.ranges args))
arguments_known [] k = refl
arguments_known (arg ∷ args) k =
    forms.then (with_kind arg.kind arg.name k) (with_arguments args) (HasRanges (arg_ranges k.ranges arg)) (HasRanges (fold arg_ranges (arg_ranges k.ranges arg) args)) (kind_known arg.kind arg.name arg.line k)
    (λ g h. subst (λ (rho : Ranges). forms.Gives (with_arguments args g) (HasRanges (fold arg_ranges rho args))) h (arguments_known args g))

module _ (args : List Arg) where
  abbrev pub end : List Header → Ranges
  end way = ranges_at_end way (start_ranges args)

  place_known : (way : List Header) (own : List Name) → forms.Gives (place args way own) (HasRanges (end way))
  unfolding place
  place_known way own =
      and_along way own (with_arguments args (nothing_known (symbol_count args + loop_count way))) (start_ranges args)
      (arguments_known args (nothing_known (symbol_count args + loop_count way))) (all_along way own)

  pub access_known : (way : List Header) (at : Access) → forms.Gives (access args way at) (λ a. a.known.ranges ≡ end way)
  unfolding access
  access_known way at =
      forms.then (place args way at.operands) _ (HasRanges (end way)) (λ a. a.known.ranges ≡ end way) (place_known way at.operands)
      (λ k h. step (map_forms k.forms k.next at []) _ (λ (a : Accessed). a.known.ranges ≡ end way)
      (λ formed. forms.then (with_divisions formed.locals k) (λ (g : Known). Ok (record { known = g; forms = formed.forms })) (HasRanges (end way)) (λ (a : Accessed). a.known.ranges ≡ end way) (divided formed.locals k (end way) h) (λ g e. e)))

  -- ---- the accesses that are tested
  all_are_of : (us : List Use) → Gives (all_reaching args us) (AreOf args us)
  all_are_of [] = tt
  all_are_of (Affine way stores at ∷ us) =
      on (by_form (access args way at)) _ (AreOf args (Affine way stores at ∷ us)) (λ a e.
      then_by (all_reaching args us) _ (AreOf args us) (AreOf args (Affine way stores at ∷ us)) (all_are_of us) (λ xs h. (record { accessed = a; is = formed_is (access args way at) a e; same = refl }, h)))
  all_are_of (Other ∷ us) = tt

  pub are_of : (us : List Use) → Gives (reaching args us) (AreOf args us)
  are_of us = by (has_other us)
    where
      by : (b : Bool) → Gives (cond b (Err unplaced) (all_reaching args us)) (AreOf args us)
      by true = tt
      by false = all_are_of us

  -- a region with its test, over the accesses that it is of
  pub record IsTested (way : List Header) (us : List Use) (sizes : List ℕ) (dma : Bool) (ds : List Dimension) : Type 0 where
    pub xs : List Reaching
    pub are : AreOf args us xs
    pub fits : region_fits (map (end way) (outer_names args way)) xs sizes dma ds ≡ true

  pub outside_known : (way : List Header) → Gives (outside_at args way) (λ (o : Outside). o.ranges ≡ map (end way) (outer_names args way))
  outside_known way =
      on (by_form (place args way [])) _ (λ (o : Outside). o.ranges ≡ map (end way) (outer_names args way)) (λ k made.
      ap (λ (rho : Ranges). map rho (outer_names args way)) (subst (λ w. forms.Gives w (HasRanges (end way))) (formed_is (place args way []) k made) (place_known way [])))

  all_tested : (way : List Header) (us : List Use) (sizes : List ℕ) (dma : Bool) → Gives (region_of args way us sizes dma) (IsTested way us sizes dma)
  unfolding region_of
  all_tested way us sizes dma =
      then_by (reaching args us) _ (AreOf args us) (IsTested way us sizes dma) (are_of us) (λ xs are.
      then_by (outside_at args way) _ (λ (o : Outside). o.ranges ≡ map (end way) (outer_names args way)) (IsTested way us sizes dma) (outside_known way) (λ outside known.
      on (dimensions outside (loop_count way) xs 0 sizes) _ (IsTested way us sizes dma) (λ ds made.
      by xs are (for_transfers dma sizes ds) (region_fits outside.ranges xs sizes dma (for_transfers dma sizes ds)) (ap (λ rs. region_fits rs xs sizes dma (for_transfers dma sizes ds)) (sym known)))))
    where
      by : (xs : List Reaching) → AreOf args us xs → (ds : List Dimension) (b : Bool) → region_fits (map (end way) (outer_names args way)) xs sizes dma ds ≡ b → Gives (kept_where b ds) (IsTested way us sizes dma)
      by xs are ds true e = record { xs = xs; are = are; fits = e }
      by xs are ds false e = tt

  pub is_tested : (way : List Header) (us : List Use) (sizes : List ℕ) (dma : Bool) (ds : List Dimension) → region_of args way us sizes dma ≡ Ok ds → IsTested way us sizes dma ds
  is_tested way us sizes dma ds e = subst (λ w. Gives w (IsTested way us sizes dma)) e (all_tested way us sizes dma)

  -- ---- what the test says
  pub record Fit (xs : List Reaching) (sizes : List ℕ) (dma : Bool) (ds : List Dimension) (outer : List Range) : Type 0 where
    pub places : List Range
    pub are : place_ranges outer sizes ds ≡ Some places
    pub copies : cond dma true (copies_fit ds places) ≡ true
    pub accesses : accesses_fit places xs ≡ true

  pub fits_parts : (xs : List Reaching) (sizes : List ℕ) (dma : Bool) (ds : List Dimension) (outer : List Range) → region_fits outer xs sizes dma ds ≡ true → Fit xs sizes dma ds outer
  fits_parts xs sizes dma ds outer h = by (place_ranges outer sizes ds) refl h
    where
      by : (o : Option (List Range)) → place_ranges outer sizes ds ≡ o → templates_fit dma ds xs o ≡ true → Fit xs sizes dma ds outer
      by None e k = absurd (let z : ⊥ = cc in z)
      by (Some places) e k = let w = and_parts (cond dma true (copies_fit ds places)) (accesses_fit places xs) k in record { places = places; are = e; copies = w.0; accesses = w.1 }

  -- of each use, under the intervals at its place
  abbrev pub UseFits : List Range → Use → Type 0
  UseFits rs (Affine way stores at) = LessFit (ranges_at (end way) at) rs
  UseFits rs Other = Unit {0}

  use_fits : (rs : List Range) (way : List Header) (at : Access) (a : Reaching) → IsReaching args way at a → subscripts_fit a.ranges rs ≡ true → LessFit (ranges_at (end way) at) rs
  use_fits rs way at a is h =
      let known = subst (λ w. forms.Gives w (λ (a : Accessed). a.known.ranges ≡ end way)) is.is (access_known way at) in
      subst (λ es. LessFit es rs) (ap (λ (x : Reaching). x.ranges) is.same ∙ ap (λ (rho : Ranges). ranges_at rho at) known) (less_fit a.ranges rs h)

  pub uses_fit : (rs : List Range) (us : List Use) (xs : List Reaching) → AreOf args us xs → accesses_fit rs xs ≡ true → Each (UseFits rs) us
  uses_fit rs [] xs are h = tt
  uses_fit rs (u ∷ us) [] are h = absurd (no_accesses u us are)
    where
      no_accesses : (u : Use) (us : List Use) → AreOf args (u ∷ us) [] → ⊥
      no_accesses (Affine way stores at) us k = k
      no_accesses Other us k = k
  uses_fit rs (Affine way stores at ∷ us) (a ∷ xs) are h = let w = and_parts (subscripts_fit a.ranges rs) (accesses_fit rs xs) h in (use_fits rs way at a are.0 w.0, uses_fit rs us xs are.1 w.1)
  uses_fit rs (Other ∷ us) (a ∷ xs) are h = absurd are

  -- ---- the outer variables
  symbols_long : (xs : List Arg) → length (symbol_names xs) ≡ symbol_count xs
  symbols_long [] = refl
  symbols_long (arg ∷ xs) = by arg.kind (symbols_long xs)
    where
      by : (k : ArgKind) → length (symbol_names xs) ≡ symbol_count xs → length (names_of k arg.name ++ symbol_names xs) ≡ count_of k + symbol_count xs
      by (Memref ty) h = omega (arith, h)
      by (Index range) h = omega (arith, h)

  loops_long : (way : List Header) → length (loop_names way) ≡ loop_count way
  loops_long [] = refl
  loops_long (Round v l u s ∷ hs) = let e = loops_long hs in omega (arith, e)
  loops_long (Given set names ∷ hs) = loops_long hs
  loops_long (Except set names first ∷ hs) = loops_long hs
  loops_long (Behind p ∷ hs) = loops_long hs
  loops_long (Past n ∷ hs) = loops_long hs

  pub outer_long : (way : List Header) → length (outer_names args way) ≡ symbol_count args + loop_count way
  outer_long way = length-append (symbol_names args) (loop_names way) ∙ (λ i. symbols_long args i + loops_long way i)

  pub all_long : (way : List Header) (us : List Use) (sizes : List ℕ) (dma : Bool) (ds : List Dimension) → region_of args way us sizes dma ≡ Ok ds → AllLong (outer_names args way) ds
  all_long way us sizes dma ds e = along ds (regions_are_over args way us sizes ds dma e)
    where
      along : (ds : List Dimension) → Each (λ (d : Dimension). length d.coefs ≡ symbol_count args + loop_count way) ds → AllLong (outer_names args way) ds
      along [] h = tt
      along (d ∷ ds) h = (outer_long way ∙ sym h.0, along ds h.1)
