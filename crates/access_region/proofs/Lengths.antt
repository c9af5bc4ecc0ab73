-- A region has a coefficient for each outer variable.
use Rattle.std.proofs.Common.{◌≡◌, ℕ, zero, suc, ◌+◌, ◌≤◌, Bool, true, false, cond, List, [], ◌∷◌, ◌++◌, take, drop, length, replicate, Option, Some, None, Ok, Err, ℤ, pos, ◌+ℤ◌, ◌-ℤ◌, int_lt, refl, sym, ◌∙◌, ap, subst, arith, length-append}
use Rattle.std.specs.Prelude.{int_le}
use Rattle.std.proofs.lemmas.List.{length-replicate}
use Rattle.constraint_set.specs.Lists.{Each}
use Rattle.constraint_set.specs.Points.{LinearSystem}
use Rattle.constraint_set.specs.Reach.{Reach, never, between}
use Rattle.constraint_set.proofs.Steps.{Each-append}
use Rattle.affine_expr.proofs.FormValues as forms
use Rattle.affine_ast.specs.declared.module.Arg.{Arg}
use Rattle.nest_domain.specs.Ways.{Header, Use, loop_count}
use Rattle.nest_domain.specs.Domains.{symbol_count, place}
use Rattle.nest_domain.proofs.Counts.{place_outer}
use Rattle.nest_domain.specs.Boxes.{Dimension, AreOver}
use Rattle.access_region.specs.declared.candidate.End.{End}
use Rattle.access_region.specs.declared.candidate.End.TheVariants.{Lower, Upper}
use Rattle.access_region.specs.Faults.{unplaced, ◌>>=◌, by_form, by_elimination}
use Rattle.access_region.specs.Candidates.{Reaching, subscript, replaced, candidate, has_coefs, with_candidate, with_candidates, candidates}
use Rattle.access_region.specs.declared.span.Span.{Span}
use Rattle.access_region.specs.Spans.{reach_at, combination, spans_of, Tried, tried_from, tried, lesser, best, all_joined, tried_by}
use Rattle.access_region.specs.Regions.{reaching, Outside, outside_at, at_most_whole, clamped_by, placed, dimension, dimensions}
use Rattle.access_region.specs.Widening.{Side, sides, shape, is_mixed, all_whole, made_whole, last_whole, widened_by, dims_of, widened, for_transfers}
use Rattle.access_region.specs.Laws.{RegionsAreOver}
use Rattle.access_region.proofs.Inside.{Gives, on, then_by}
use Rattle.access_region.proofs.Regioned.{formed_is, region_at, found_of}

take_long : (n : ℕ) (xs : List ℤ) → n ≤ length xs → length (take n xs) ≡ n
take_long zero xs h = refl
take_long (suc n) [] h = absurd (omega arith)
take_long (suc n) (x ∷ xs) h = ap suc (take_long n xs (omega (arith, h)))

module _ (n : ℕ) where
  Long : List (List ℤ) → Type 0
  Long cs = Each (λ c. length c ≡ n) cs

  candidate_long : (end : End) (outside d : ℕ) (a : Reaching) → Gives (candidate end n outside d a) (λ c. length c ≡ n)
  candidate_long end outside d a =
      on (by_elimination (replaced end n (drop outside a.goings) (length (drop outside a.goings)) (subscript d a).coefs)) _ (λ (c : List ℤ). length c ≡ n) (λ c e. cut c)
    where
      cut : (c : List ℤ) → length (take n (c ++ replicate n (pos 0))) ≡ n
      cut c = take_long n (c ++ replicate n (pos 0)) (omega (arith, length-append c (replicate n (pos 0)), length-replicate n (pos 0)))

  with_long : (kept : List (List ℤ)) (c : List ℤ) → Long kept → length c ≡ n → Long (with_candidate kept c)
  unfolding Long
  with_long kept c h l = by (has_coefs c kept)
    where
      by : (b : Bool) → Each (λ c. length c ≡ n) (cond b kept (kept ++ c ∷ []))
      by true = h
      by false = Each-append (λ c. length c ≡ n) kept (c ∷ []) h (l, tt)

  all_long : (end : End) (outside d : ℕ) (xs : List Reaching) (kept : List (List ℤ)) → Long kept → Gives (with_candidates end n outside d xs kept) Long
  all_long end outside d [] kept h = h
  all_long end outside d (a ∷ xs) kept h = then_by (candidate end n outside d a) _ (λ c. length c ≡ n) Long (candidate_long end outside d a) (λ c l. all_long end outside d xs (with_candidate kept c) (with_long kept c h l))

  candidates_long : (outside d : ℕ) (xs : List Reaching) → Gives (candidates n outside d xs) Long
  unfolding Long
  candidates_long outside d xs =
      then_by (with_candidates Lower n outside d xs []) _ Long Long (all_long Lower outside d xs [] tt) (λ low h.
      then_by (with_candidates Upper n outside d xs low) _ Long Long (all_long Upper outside d xs low h) (λ both k.
      with_long both (replicate n (pos 0)) k (length-replicate n (pos 0))))

  tried_long : (d : ℕ) (xs : List Reaching) (c : List ℤ) → length c ≡ n → Gives (tried d xs c) (λ t. length t.coefs ≡ n)
  tried_long d xs c l = on (spans_of d c xs) (tried_from c) (λ t. length t.coefs ≡ n) (λ spans e. by spans)
    where
      by : (spans : List Span) → Gives (tried_from c spans) (λ t. length t.coefs ≡ n)
      by [] = tt
      by (s ∷ ss) = choose (all_joined s ss)
        where
          choose : (w : Span) → Gives (tried_by c w) (λ t. length t.coefs ≡ n)
          choose w = pick (int_lt ((w.greatest -ℤ w.least) +ℤ pos 1) (pos 1))
            where
              pick : (b : Bool) → Gives {A = Tried} (cond b (Err unplaced) (Ok (record { coefs = c; offset = w.least; extent = (w.greatest -ℤ w.least) +ℤ pos 1 }))) (λ t. length t.coefs ≡ n)
              pick true = tt
              pick false = l

  KeptLong : Option Tried → Type 0
  KeptLong None = Unit {0}
  KeptLong (Some t) = length t.coefs ≡ n

  best_long : (d : ℕ) (xs : List Reaching) (cs : List (List ℤ)) (kept : Option Tried) → Long cs → KeptLong kept → Gives (best d xs cs kept) (λ t. length t.coefs ≡ n)
  unfolding Long KeptLong
  best_long d xs [] None l k = tt
  best_long d xs [] (Some t) l k = k
  best_long d xs (c ∷ cs) kept l k = then_by (tried d xs c) _ (λ t. length t.coefs ≡ n) (λ t. length t.coefs ≡ n) (tried_long d xs c l.0) (λ t h. best_long d xs cs (Some (lesser kept t)) l.1 (chosen kept t k h))
    where
      chosen : (kept : Option Tried) (t : Tried) → KeptLong kept → length t.coefs ≡ n → length (lesser kept t).coefs ≡ n
      chosen None t k h = h
      chosen (Some u) t k h = by (int_lt t.extent u.extent)
        where
          by : (b : Bool) → length (cond {A = Tried} b t u).coefs ≡ n
          by true = h
          by false = k

  whole_long : (size : ℤ) (t : Tried) → length t.coefs ≡ n → length (at_most_whole n size t).coefs ≡ n
  whole_long size t h = by (int_le size t.extent)
    where
      by : (b : Bool) → length (cond {A = Tried} b (record { coefs = replicate n (pos 0); offset = pos 0; extent = size }) t).coefs ≡ n
      by true = length-replicate n (pos 0)
      by false = h

  placed_long : (outside : LinearSystem) (size : ℤ) (t : Tried) → length t.coefs ≡ n → Gives (placed outside size t) (λ d. length d.coefs ≡ n)
  placed_long outside size t h = on (reach_at outside (combination t.coefs)) (clamped_by size t) (λ d. length d.coefs ≡ n) (λ r e. by r)
    where
      by : (r : Reach) → Gives (clamped_by size t r) (λ d. length d.coefs ≡ n)
      by never = tt
      by (between g l) = h

  dimension_long : (outside : Outside) (loops d size : ℕ) (xs : List Reaching) → outside.outer ≡ n → Gives (dimension outside loops xs d size) (λ d. length d.coefs ≡ n)
  unfolding KeptLong
  dimension_long outside loops d size xs e = subst (λ o. Gives (candidates o loops d xs >>= (λ cs. best d xs cs None >>= (λ t. placed outside.system (pos size) (at_most_whole o (pos size) t)))) (λ d. length d.coefs ≡ n)) (sym e)
      (then_by (candidates n loops d xs) _ Long (λ d. length d.coefs ≡ n) (candidates_long loops d xs) (λ cs long.
      then_by (best d xs cs None) _ (λ t. length t.coefs ≡ n) (λ d. length d.coefs ≡ n) (best_long d xs cs None long tt) (λ t h. placed_long outside.system (pos size) (at_most_whole n (pos size) t) (whole_long (pos size) t h))))

  dimensions_long : (outside : Outside) (loops : ℕ) (xs : List Reaching) (d : ℕ) (sizes : List ℕ) → outside.outer ≡ n → Gives (dimensions outside loops xs d sizes) (AreOver n)
  dimensions_long outside loops xs d [] e = tt
  dimensions_long outside loops xs d (size ∷ sizes) e =
      then_by (dimension outside loops xs d size) _ (λ d. length d.coefs ≡ n) (AreOver n) (dimension_long outside loops d size xs e) (λ f h.
      then_by (dimensions outside loops xs (suc d) sizes) _ (AreOver n) (AreOver n) (dimensions_long outside loops xs (suc d) sizes e) (λ fs k. (h, k)))

  -- ---- widened
  SidesLong : List Side → Type 0
  SidesLong ds = Each (λ d. length d.dim.coefs ≡ n) ds

  sides_long : (ds : List Dimension) (ns : List ℕ) → AreOver n ds → SidesLong (sides ds ns)
  unfolding SidesLong
  sides_long [] ns h = tt
  sides_long (d ∷ ds) [] h = tt
  sides_long (d ∷ ds) (m ∷ ns) h = (h.0, sides_long ds ns h.1)

  dims_long : (ds : List Side) → SidesLong ds → AreOver n (dims_of ds)
  unfolding SidesLong
  dims_long [] h = tt
  dims_long (d ∷ ds) h = (h.0, dims_long ds h.1)

  last_long : (ds : List Side) → SidesLong ds → SidesLong (last_whole ds)
  unfolding SidesLong
  last_long [] h = tt
  last_long (d ∷ ds) h = by (all_whole ds) (last_long ds h.1)
    where
      by : (b : Bool) → SidesLong (last_whole ds) → SidesLong (cond b (made_whole d ∷ ds) (d ∷ last_whole ds))
      by true k = (length-replicate (length d.dim.coefs) (pos 0) ∙ h.0, h.1)
      by false k = (h.0, k)

  widened_long : (m : ℕ) (ds : List Side) → SidesLong ds → SidesLong (widened_by m ds)
  widened_long zero ds h = h
  widened_long (suc m) ds h = by (is_mixed (shape ds)) (widened_long m (last_whole ds) (last_long ds h))
    where
      by : (b : Bool) → SidesLong (widened_by m (last_whole ds)) → SidesLong (cond b (widened_by m (last_whole ds)) ds)
      by true k = k
      by false k = h

  kept_long : (dma : Bool) (ds : List Dimension) (ns : List ℕ) → AreOver n ds → AreOver n (for_transfers dma ns ds)
  unfolding widened
  kept_long false ds ns h = h
  kept_long true ds ns h = dims_long (widened_by (length ds) (sides ds ns)) (widened_long (length ds) (sides ds ns) (sides_long ds ns h))

region_long : (args : List Arg) (way : List Header) (us : List Use) (sizes : List ℕ) → Gives (region_at args way us sizes) (AreOver (symbol_count args + loop_count way))
unfolding region_at
region_long args way us sizes =
    let n = symbol_count args + loop_count way in
    on (reaching args us) _ (AreOver n) (λ xs e.
    then_by (outside_at args way) (λ outside. dimensions outside (loop_count way) xs 0 sizes) (λ o. o.outer ≡ n) (AreOver n)
    (on (by_form (place args way [])) _ (λ o. o.outer ≡ n) (λ k made. subst (λ w. forms.Gives w (λ g. g.outer ≡ symbol_count args + loop_count way)) (formed_is (place args way []) k made) (place_outer args way [])))
    (λ outside o. dimensions_long n outside (loop_count way) xs 0 sizes o))

pub regions_are_over : RegionsAreOver
regions_are_over args way us sizes ds dma is =
    let r = found_of args way us sizes dma ds is in
    let n = symbol_count args + loop_count way in
    subst (AreOver n) r.widened (kept_long n dma r.found sizes (subst (λ w. Gives w (AreOver n)) r.is (region_long args way us sizes)))
