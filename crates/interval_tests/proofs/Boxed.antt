-- A box before the test: it has a coefficient for each outer variable, and each extent is between 1 and the size.
use Rattle.std.proofs.Common.{◌≡◌, ℕ, zero, suc, ◌+◌, ◌≤◌, Bool, true, false, cond, List, [], ◌∷◌, ◌++◌, take, drop, length, map, replicate, Option, Some, None, Result, Ok, Err, ℤ, pos, ◌+ℤ◌, ◌-ℤ◌, int_lt, refl, sym, ◌∙◌, ap, subst, arith, length-append}
use Rattle.std.specs.Prelude.{int_le}
use Rattle.std.proofs.lemmas.List.{length-replicate}
use Rattle.constraint_set.specs.Lists.{Each}
use Rattle.constraint_set.specs.Points.{LinearSystem}
use Rattle.constraint_set.specs.Reach.{Reach, never, between}
use Rattle.constraint_set.proofs.Steps.{Each-append}
use Rattle.affine_expr.proofs.FormValues as forms
use Rattle.affine_ast.specs.declared.module.Arg.{Arg}
use Rattle.nest_domain.specs.Ways.{Header, Use, loop_count}
use Rattle.nest_domain.specs.Domains.{symbol_count, place}
use Rattle.nest_domain.proofs.Counts.{place_outer}
use Rattle.nest_domain.specs.Boxes.{Dimension, AreOver}
use Rattle.access_region.specs.Faults.{NoRegion, unplaced, ◌>>=◌, by_form, by_elimination}
use Rattle.access_region.specs.Candidates.{Reaching, subscript, replaced, candidate, has_coefs, with_candidate, with_candidates, candidates}
use Rattle.access_region.specs.Spans.{reach_at, combination, spans_of, Tried, tried_from, tried, lesser, best, all_joined}
use Rattle.access_region.specs.Regions.{reaching, Outside, outside_at, at_most_whole, clamped_by, placed, dimension, dimensions}
use Rattle.access_region.specs.Widening.{Side, sides, shape, is_mixed, all_whole, made_whole, last_whole, widened_by, dims_of, widened, for_transfers}
use Rattle.access_region.specs.Places.{region_fits, kept_where, region_of}
use Rattle.access_region.proofs.Inside.{Gives, on, then_by}
use Rattle.access_region.proofs.Regioned.{formed_is, region_at, AreOf}
use Rattle.placement_regions.specs.Sites.{outer_names}
use Rattle.placement_regions.proofs.Extents as extents
use Rattle.placement_regions.proofs.Extents.{AllFit, AllSome, SidesFit, sides_fit, widened_fits}
use Rattle.placed_intervals.proofs.Known.{end, are_of, outside_known}
use Rattle.placed_intervals.proofs.Places.{AllLong}
use Rattle.interval_tests.specs.Law.{box_of}

-- ---- so many coefficients
abbrev Long : ℕ → List ℤ → Type 0
Long n cs = length cs ≡ n

take_long : (n : ℕ) (xs : List ℤ) → n ≤ length xs → Long n (take n xs)
take_long zero xs h = refl
take_long (suc n) [] h = absurd (omega arith)
take_long (suc n) (x ∷ xs) h = ap suc (take_long n xs (omega (arith, h)))

module _ (n : ℕ) where
  abbrev AreLong : List (List ℤ) → Type 0
  AreLong cs = Each (Long n) cs

  abbrev IsLong : Tried → Type 0
  IsLong t = Long n t.coefs

  abbrev IsOver : Dimension → Type 0
  IsOver d = Long n d.coefs

  with_long : (kept : List (List ℤ)) (c : List ℤ) → AreLong kept → Long n c → AreLong (with_candidate kept c)
  with_long kept c h l = by (has_coefs c kept)
    where
      by : (b : Bool) → AreLong (cond b kept (kept ++ c ∷ []))
      by true = h
      by false = Each-append (Long n) kept (c ∷ []) h (l, tt)

  cut : (c : List ℤ) → Long n (take n (c ++ replicate n (pos 0)))
  cut c = take_long n (c ++ replicate n (pos 0)) (omega (arith, length-append c (replicate n (pos 0)), length-replicate n (pos 0)))

  -- what is added for each access, by whatever gives its candidate
  added_long : {E : Type 0} (one : E → Reaching → Result (List ℤ) NoRegion) (all : E → List Reaching → List (List ℤ) → Result (List (List ℤ)) NoRegion)
      → ((e : E) (kept : List (List ℤ)) → all e [] kept ≡ Ok kept) → ((e : E) (a : Reaching) (xs : List Reaching) (kept : List (List ℤ)) → all e (a ∷ xs) kept ≡ (one e a >>= (λ c. all e xs (with_candidate kept c))))
      → ((e : E) (a : Reaching) → Gives (one e a) (Long n)) → (xs : List Reaching) (e : E) (kept : List (List ℤ)) → AreLong kept → Gives (all e xs kept) AreLong
  added_long one all none some each [] e kept h = subst (λ w. Gives w AreLong) (sym (none e kept)) h
  added_long one all none some each (a ∷ xs) e kept h = subst (λ w. Gives w AreLong) (sym (some e a xs kept)) (then_by (one e a) _ (Long n) AreLong (each e a) (λ c l. added_long one all none some each xs e (with_candidate kept c) (with_long kept c h l)))

  -- first by one, then by another, and then zeros
  twice_long : {E : Type 0} (all : E → List (List ℤ) → Result (List (List ℤ)) NoRegion) (low high : E) → ((e : E) (kept : List (List ℤ)) → AreLong kept → Gives (all e kept) AreLong)
      → Gives (all low [] >>= (λ first. all high first >>= (λ both. Ok (with_candidate both (replicate n (pos 0)))))) AreLong
  twice_long all low high each =
      then_by (all low []) _ AreLong AreLong (each low [] tt) (λ first h.
      then_by (all high first) _ AreLong AreLong (each high first h) (λ both k. with_long both (replicate n (pos 0)) k (length-replicate n (pos 0))))

  end_long : (outside d : ℕ) (xs : List Reaching) (e : _) (kept : List (List ℤ)) → AreLong kept → Gives (with_candidates e n outside d xs kept) AreLong
  end_long outside d xs =
      added_long (λ e a. candidate e n outside d a) (λ e xs kept. with_candidates e n outside d xs kept) (λ e kept. refl) (λ e a xs kept. refl)
      (λ e a. on (by_elimination (replaced e n (drop outside a.goings) (length (drop outside a.goings)) (subscript d a).coefs)) _ (Long n) (λ c is. cut c)) xs

  candidates_long : (outside d : ℕ) (xs : List Reaching) → Gives (candidates n outside d xs) AreLong
  candidates_long outside d xs = search (twice_long (λ e kept. with_candidates e n outside d xs kept), end_long outside d xs)

  -- an answer from a list, by whether it is empty
  from_list : {A : Type 0} (f : List A → Result Tried NoRegion) → Gives (f []) IsLong → ((s : A) (ss : List A) → Gives (f (s ∷ ss)) IsLong) → (xs : List A) → Gives (f xs) IsLong
  from_list f none some [] = none
  from_list f none some (s ∷ ss) = some s ss

  extent_long : (c : List ℤ) (least extent : ℤ) (b : Bool) → Long n c → Gives {A = Tried} (cond b (Err unplaced) (Ok (record { coefs = c; offset = least; extent = extent }))) IsLong
  extent_long c least extent true l = tt
  extent_long c least extent false l = l

  tried_long : (d : ℕ) (xs : List Reaching) (c : List ℤ) → Long n c → Gives (tried d xs c) IsLong
  tried_long d xs c l =
      on (spans_of d c xs) (tried_from c) IsLong (λ spans e.
      from_list (tried_from c) tt (λ s ss. extent_long c (all_joined s ss).least (((all_joined s ss).greatest -ℤ (all_joined s ss).least) +ℤ pos 1) (int_lt (((all_joined s ss).greatest -ℤ (all_joined s ss).least) +ℤ pos 1) (pos 1)) l) spans)

  abbrev KeptLong : Option Tried → Type 0
  KeptLong None = Unit {0}
  KeptLong (Some t) = IsLong t

  best_long : (d : ℕ) (xs : List Reaching) (cs : List (List ℤ)) (kept : Option Tried) → AreLong cs → KeptLong kept → Gives (best d xs cs kept) IsLong
  best_long d xs [] None l k = tt
  best_long d xs [] (Some t) l k = k
  best_long d xs (c ∷ cs) kept l k = then_by (tried d xs c) _ IsLong IsLong (tried_long d xs c l.0) (λ t h. best_long d xs cs (Some (lesser kept t)) l.1 (chosen kept t k h))
    where
      chosen : (kept : Option Tried) (t : Tried) → KeptLong kept → IsLong t → IsLong (lesser kept t)
      chosen None t k h = h
      chosen (Some u) t k h = by (int_lt t.extent u.extent)
        where
          by : (b : Bool) → IsLong (cond {A = Tried} b t u)
          by true = h
          by false = k

  whole_long : (size : ℤ) (t : Tried) → IsLong t → IsLong (at_most_whole n size t)
  whole_long size t h = by (int_le size t.extent)
    where
      by : (b : Bool) → IsLong (cond {A = Tried} b (record { coefs = replicate n (pos 0); offset = pos 0; extent = size }) t)
      by true = length-replicate n (pos 0)
      by false = h

  placed_long : (outside : LinearSystem) (size : ℤ) (t : Tried) → IsLong t → Gives (placed outside size t) IsOver
  placed_long outside size t h = on (reach_at outside (combination t.coefs)) (clamped_by size t) IsOver (λ r e. by r)
    where
      by : (r : Reach) → Gives (clamped_by size t r) IsOver
      by never = tt
      by (between g l) = h

  dimension_long : (outside : Outside) (loops d size : ℕ) (xs : List Reaching) → outside.outer ≡ n → Gives (dimension outside loops xs d size) IsOver
  dimension_long outside loops d size xs e = subst (λ o. Gives (candidates o loops d xs >>= (λ cs. best d xs cs None >>= (λ t. placed outside.system (pos size) (at_most_whole o (pos size) t)))) IsOver) (sym e)
      (then_by (candidates n loops d xs) _ AreLong IsOver (candidates_long loops d xs) (λ cs long.
      then_by (best d xs cs None) _ IsLong IsOver (best_long d xs cs None long tt) (λ t h. placed_long outside.system (pos size) (at_most_whole n (pos size) t) (whole_long (pos size) t h))))

  dimensions_long : (outside : Outside) (loops : ℕ) (xs : List Reaching) (d : ℕ) (sizes : List ℕ) → outside.outer ≡ n → Gives (dimensions outside loops xs d sizes) (AreOver n)
  dimensions_long outside loops xs d [] e = tt
  dimensions_long outside loops xs d (size ∷ sizes) e =
      then_by (dimension outside loops xs d size) _ IsOver (AreOver n) (dimension_long outside loops d size xs e) (λ f h.
      then_by (dimensions outside loops xs (suc d) sizes) _ (AreOver n) (AreOver n) (dimensions_long outside loops xs (suc d) sizes e) (λ fs k. (h, k)))

  -- ---- widened
  abbrev SidesLong : List Side → Type 0
  SidesLong ds = Each (λ d. Long n d.dim.coefs) ds

  sides_long : (ds : List Dimension) (ns : List ℕ) → AreOver n ds → SidesLong (sides ds ns)
  sides_long [] ns h = tt
  sides_long (d ∷ ds) [] h = tt
  sides_long (d ∷ ds) (m ∷ ns) h = (h.0, sides_long ds ns h.1)

  dims_long : (ds : List Side) → SidesLong ds → AreOver n (dims_of ds)
  dims_long [] h = tt
  dims_long (d ∷ ds) h = (h.0, dims_long ds h.1)

  last_long : (ds : List Side) → SidesLong ds → SidesLong (last_whole ds)
  last_long [] h = tt
  last_long (d ∷ ds) h = by (all_whole ds) (last_long ds h.1)
    where
      by : (b : Bool) → SidesLong (last_whole ds) → SidesLong (cond b (made_whole d ∷ ds) (d ∷ last_whole ds))
      by true k = (length-replicate (length d.dim.coefs) (pos 0) ∙ h.0, h.1)
      by false k = (h.0, k)

  widened_long : (m : ℕ) (ds : List Side) → SidesLong ds → SidesLong (widened_by m ds)
  widened_long zero ds h = h
  widened_long (suc m) ds h = by (is_mixed (shape ds)) (widened_long m (last_whole ds) (last_long ds h))
    where
      by : (b : Bool) → SidesLong (widened_by m (last_whole ds)) → SidesLong (cond b (widened_by m (last_whole ds)) ds)
      by true k = k
      by false k = h

  kept_long : (dma : Bool) (ds : List Dimension) (ns : List ℕ) → AreOver n ds → AreOver n (for_transfers dma ns ds)
  unfolding widened
  kept_long false ds ns h = h
  kept_long true ds ns h = dims_long (widened_by (length ds) (sides ds ns)) (widened_long (length ds) (sides ds ns) (sides_long ds ns h))

-- ---- extents
dims_fit : (ds : List Side) (ns : List ℕ) → SidesFit ds ns → AllFit (dims_of ds) ns
dims_fit [] [] h = tt
dims_fit [] (n ∷ ns) h = absurd h
dims_fit (d ∷ ds) [] h = absurd h
dims_fit (d ∷ ds) (n ∷ ns) h = (h.0.1, dims_fit ds ns h.1)

kept_fits : (dma : Bool) (ds : List Dimension) (ns : List ℕ) → AllSome ns → AllFit ds ns → AllFit (for_transfers dma ns ds) ns
unfolding widened
kept_fits false ds ns some h = h
kept_fits true ds ns some h = dims_fit (widened_by (length ds) (sides ds ns)) ns (widened_fits (length ds) (sides ds ns) ns some (sides_fit ds ns h))

-- ---- of a box
module _ (args : List Arg) (way : List Header) (us : List Use) (sizes : List ℕ) (dma : Bool) where
  pub record Box (ds : List Dimension) : Type 0 where
    pub xs : List Reaching
    pub are : AreOf args us xs
    pub tested : region_of args way us sizes dma ≡ kept_where (region_fits (map (end args way) (outer_names args way)) xs sizes dma ds) ds
    pub long : AreOver (symbol_count args + loop_count way) ds
    pub fit : AllSome sizes → AllFit ds sizes

  fit_found : (ds : List Dimension) → region_at args way us sizes ≡ Ok ds → AllSome sizes → AllFit ds sizes
  fit_found ds e some = subst (λ w. Gives w (λ ds. AllFit ds sizes)) e (extents.region_fits args way us sizes some)

  outer_is : Gives (outside_at args way) (λ (o : Outside). o.outer ≡ symbol_count args + loop_count way)
  outer_is = on (by_form (place args way [])) _ (λ (o : Outside). o.outer ≡ symbol_count args + loop_count way) (λ k made. subst (λ w. forms.Gives w (λ g. g.outer ≡ symbol_count args + loop_count way)) (formed_is (place args way []) k made) (place_outer args way []))

  at_parts : (xs : List Reaching) (outside : Outside) (ds : List Dimension) → reaching args us ≡ Ok xs → outside_at args way ≡ Ok outside → dimensions outside (loop_count way) xs 0 sizes ≡ Ok ds → region_at args way us sizes ≡ Ok ds
  unfolding region_at
  at_parts xs outside ds a b c = rw (a, b, c)

  of_parts : (xs : List Reaching) (outside : Outside) (ds : List Dimension) → reaching args us ≡ Ok xs → outside_at args way ≡ Ok outside → dimensions outside (loop_count way) xs 0 sizes ≡ Ok ds
      → region_of args way us sizes dma ≡ kept_where (region_fits outside.ranges xs sizes dma (for_transfers dma sizes ds)) (for_transfers dma sizes ds)
  unfolding region_of
  of_parts xs outside ds a b c = rw (a, b, c)

  boxes : Gives (box_of args way us sizes dma) Box
  unfolding box_of
  boxes =
      on (reaching args us) _ Box (λ xs a.
      on (outside_at args way) _ Box (λ outside b.
      on (dimensions outside (loop_count way) xs 0 sizes) _ Box (λ ds c.
      let n = symbol_count args + loop_count way in
      let known = subst (λ w. Gives w (λ (o : Outside). o.ranges ≡ map (end args way) (outer_names args way))) b (outside_known args way) in
      let outer = subst (λ w. Gives w (λ (o : Outside). o.outer ≡ n)) b outer_is in
      record {
        xs = xs;
        are = subst (λ w. Gives w (AreOf args us)) a (are_of args us);
        tested = of_parts xs outside ds a b c ∙ ap (λ rs. kept_where (region_fits rs xs sizes dma (for_transfers dma sizes ds)) (for_transfers dma sizes ds)) known;
        long = kept_long n dma ds sizes (subst (λ w. Gives w (AreOver n)) c (dimensions_long n outside (loop_count way) xs 0 sizes outer));
        fit = λ some. kept_fits dma ds sizes some (fit_found ds (at_parts xs outside ds a b c) some);
      })))

  pub box_parts : (ds : List Dimension) → box_of args way us sizes dma ≡ Ok ds → Box ds
  box_parts ds e = subst (λ w. Gives w Box) e boxes

  -- what refuses it refuses the region
  by_box : (w : Result (List Reaching) NoRegion) (v : Result Outside NoRegion) (f : Outside → List Reaching → Result (List Dimension) NoRegion) (g : Outside → List Reaching → List Dimension → Bool) (e : NoRegion)
      → (w >>= (λ xs. v >>= (λ o. f o xs >>= (λ ds. Ok (for_transfers dma sizes ds))))) ≡ Err e
      → (w >>= (λ xs. v >>= (λ o. f o xs >>= (λ ds. kept_where (g o xs (for_transfers dma sizes ds)) (for_transfers dma sizes ds))))) ≡ Err e
  by_box (Err r) v f g e h = let is : r ≡ e = cc in ap (λ (x : NoRegion). Err x) is
  by_box (Ok xs) (Err r) f g e h = let is : r ≡ e = cc in ap (λ (x : NoRegion). Err x) is
  by_box (Ok xs) (Ok o) f g e h = last (f o xs) h
    where
      last : (u : Result (List Dimension) NoRegion) → (u >>= (λ ds. Ok (for_transfers dma sizes ds))) ≡ Err e → (u >>= (λ ds. kept_where (g o xs (for_transfers dma sizes ds)) (for_transfers dma sizes ds))) ≡ Err e
      last (Err r) h = let is : r ≡ e = cc in ap (λ (x : NoRegion). Err x) is
      last (Ok ds) h = absurd (let z : ⊥ = cc in z)

  pub refused_so : (e : NoRegion) → box_of args way us sizes dma ≡ Err e → region_of args way us sizes dma ≡ Err e
  unfolding box_of region_of
  refused_so e h = by_box (reaching args us) (outside_at args way) (λ o xs. dimensions o (loop_count way) xs 0 sizes) (λ o xs ds. region_fits o.ranges xs sizes dma ds) e h

  -- over the outer variables' names
  pub long_over : length (outer_names args way) ≡ symbol_count args + loop_count way → (ds : List Dimension) → AreOver (symbol_count args + loop_count way) ds → AllLong (outer_names args way) ds
  long_over e [] h = tt
  long_over e (d ∷ ds) h = (e ∙ sym h.0, long_over e ds h.1)
