-- The statements that say where the box begins keep to the rule on intervals, and behind them the places have their intervals.
use Rattle.std.proofs.Common.{◌≡◌, ℕ, suc, ◌+◌, ◌*◌, ◌≤◌, ℤ, pos, ◌≤ℤ◌, Bool, true, false, cond, List, [], ◌∷◌, length, map, refl, sym, ap, ◌∙◌, subst, arith}
use Rattle.std.specs.Prelude.{◌&&◌, Some, is_some}
use Rattle.std.specs.List.{list_all}
use Rattle.std.specs.Int.{int_min, int_max}
use Rattle.std.proofs.lemmas.Int.{ints, clamps}
use Rattle.affine_expr.specs.declared.expr.Expr.{Expr, Dim, Const}
use Rattle.affine_expr.specs.Bounded.{bounded}
use Rattle.affine_expr.specs.Pure.{is_outside}
use Rattle.affine_expr.specs.Spread.{Range, Spread, only, range_of}
use Rattle.affine_expr.proofs.Limits.{is_inside, not_outside}
use Rattle.affine_ast.specs.declared.name.Name.{Name}
use Rattle.affine_ast.specs.declared.types.Pick.TheVariants.{Apply, Min, Max}
use Rattle.affine_ast.specs.Intervals.{ranges_at, picked_range}
use Rattle.affine_ast.specs.Names.{same_name, put}
use Rattle.affine_ast.proofs.Names.{put-same, put-other, same_name-refl, same_name-sym}
use Rattle.affine_ast.specs.Nest.{Nest, Does, Value}
use Rattle.affine_ast.specs.Rules.{binding_is_small, is_small_dimension, has_interval, access_bounded}
use Rattle.affine_ast.specs.Scope.{Binding, Variable, Scope, range_of_binding, ranges_in}
use Rattle.placement_texts.specs.Own.{OwnNames, MadeNames}
use Rattle.placement_texts.specs.Regions.{OwnDims}
use Rattle.placement_texts.specs.Template.{Dimension, place_name, least_name, form, term_names, over_terms, last_place, value_or_zero, Begin, Fixed, Named, begin, begins_from, place_statement, places_from}
use Rattle.placement_texts.proofs.Follows.{apart_own}
use Rattle.placement_texts.proofs.PlaceRun.{take_whole, drop_whole}
use Rattle.plan_laws.specs.Limits.{bounded_in}
use Rattle.placed_intervals.specs.Fits.{Inside, clamped_by, PlaceFits, PlacesFit, Sized}
use Rattle.placed_intervals.proofs.Ranges.{dim_is, const_is, spread_is}
use Rattle.placed_intervals.proofs.Scopes.{Agree, smalls_same, ranges_same}

-- ---- numbers within the limits
pub between_inside : (l h z : ℤ) → is_outside l ≡ false → is_outside h ≡ false → l ≤ℤ z → z ≤ℤ h → is_outside z ≡ false
between_inside l h z p q a b =
    let i = is_inside l p in
    let j = is_inside h q in
    let il = i.low in
    let jh = j.high in
    not_outside z (record { low = omega (arith, ints, il, a); high = omega (arith, ints, jh, b) })

pub number_inside : (n : ℕ) → n ≤ 1048576 → is_outside (pos n) ≡ false
number_inside n h = not_outside (pos n) (record { low = omega (arith, ints, h); high = omega (arith, ints, h) })

min_inside : (a b : ℤ) → is_outside a ≡ false → is_outside b ≡ false → is_outside (int_min a b) ≡ false
min_inside a b p q =
    let i = is_inside a p in
    let j = is_inside b q in
    let il = i.low in
    let ih = i.high in
    let jl = j.low in
    let jh = j.high in
    not_outside (int_min a b) (record { low = omega (arith, ints, clamps, il, jl); high = omega (arith, ints, clamps, ih, jh) })

max_inside : (a b : ℤ) → is_outside a ≡ false → is_outside b ≡ false → is_outside (int_max a b) ≡ false
max_inside a b p q =
    let i = is_inside a p in
    let j = is_inside b q in
    let il = i.low in
    let ih = i.high in
    let jl = j.low in
    let jh = j.high in
    not_outside (int_max a b) (record { low = omega (arith, ints, clamps, il, jl); high = omega (arith, ints, clamps, ih, jh) })

last_inside : (d : Dimension) → 1 ≤ d.extent → d.extent ≤ d.size → d.size ≤ 1048576 → is_outside (last_place d) ≡ false
last_inside d a b c = between_inside (pos 0) (pos 1048576) (last_place d) (number_inside 0 (omega arith)) (number_inside 1048576 (omega arith)) (omega (arith, ints, b)) (omega (arith, ints, c))

-- ---- scopes that differ in made names
module _ (name : ℕ → Name) where
  -- names that are none of these are as they were
  abbrev pub Changes : (ℕ → Type 0) → Scope → Scope → Type 0
  Changes P s t = (n : Name) → ((i : ℕ) → P i → same_name (name i) n ≡ false) → t n ≡ s n

  pub changes_then : (P : ℕ → Type 0) (s t u : Scope) → Changes P s t → Changes P t u → Changes P s u
  changes_then P s t u h k n a = k n a ∙ h n a

  pub changes_put : (P : ℕ → Type 0) (s : Scope) (i : ℕ) (b : Binding) → P i → Changes P s (put s (name i) (Some b))
  changes_put P s i b p n a = put-other s (name i) (Some b) n (a i p)

  pub changes_more : (P Q : ℕ → Type 0) → ((i : ℕ) → P i → Q i) → (s t : Scope) → Changes P s t → Changes Q s t
  changes_more P Q so s t h n a = h n (λ i p. a i (so i p))

  module _ (own : Name → Bool) (names : MadeNames own name) where
    pub own_apart : (i : ℕ) (n : Name) → own n ≡ true → same_name (name i) n ≡ false
    own_apart i n h = same_name-sym (name i) n ∙ apart_own own n (name i) h (names.made i)

    pub changes_own : (P : ℕ → Type 0) (s t : Scope) → Changes P s t → Agree own s t
    changes_own P s t h n o = h n (λ i p. own_apart i n o)

    pub made_apart : (i j : ℕ) → (i ≡ j → ⊥) → same_name (name i) (name j) ≡ false
    made_apart i j differ = by (same_name (name i) (name j)) refl
      where
        by : (t : Bool) → same_name (name i) (name j) ≡ t → same_name (name i) (name j) ≡ false
        by true e = absurd (differ (names.apart i j e))
        by false e = e

    pub changes_kept : (P : ℕ → Type 0) (s t : Scope) (j : ℕ) → Changes P s t → (P j → ⊥) → t (name j) ≡ s (name j)
    changes_kept P s t j h not = h (name j) (λ i p. made_apart i j (λ e. not (subst P e p)))

-- ---- where the box begins
abbrev pub BeginIs : Scope → Begin → Range → Type 0
BeginIs s (Fixed z) r = r ≡ only z
BeginIs s (Named n) r = s n ≡ Some (Variable r)

-- each place has its interval, which is within the limits
abbrev pub Begun : Scope → List Begin → List Range → Type 0
Begun s [] [] = Unit {0}
Begun s (b ∷ bs) (r ∷ rs) = BeginIs s b r × Inside r × Begun s bs rs
Begun s [] (r ∷ rs) = ⊥
Begun s (b ∷ bs) [] = ⊥

-- ---- maps over the terms' values
pub length_terms : (ts : List (Name × ℤ)) → length (term_names ts) ≡ length ts
length_terms [] = refl
length_terms (t ∷ ts) = ap suc (length_terms ts)

length_map : (f : Name → Range) (ns : List Name) → length (map f ns) ≡ length ns
length_map f [] = refl
length_map f (n ∷ ns) = ap suc (length_map f ns)

pub interval_some : (ds ss : List Range) (e : Expr) (a : Spread) → bounded ds ss e ≡ Some a → has_interval ds ss e ≡ true
unfolding has_interval
interval_some ds ss e a h = ap is_some h

module _ (s : Scope) (ts : List (Name × ℤ)) where
  abbrev pub values : List Range
  values = map (ranges_in s) (term_names ts)

  ranged : length values ≡ length ts
  ranged = length_map (ranges_in s) (term_names ts) ∙ length_terms ts

  terms_bounded : (es : List Expr) → list_all (is_small_dimension s) (term_names ts) ≡ true → list_all (has_interval values []) es ≡ true → access_bounded s (over_terms ts es) ≡ true
  unfolding access_bounded
  terms_bounded es h k =
      λ i. (ap (list_all (is_small_dimension s)) (take_whole (term_names ts) (length ts) (length_terms ts)) ∙ h) i
      && ((λ j. list_all (has_interval (take_whole values (length ts) ranged j) (drop_whole values (length ts) ranged j)) es) ∙ k) i

  pub terms_ranges : (es : List Expr) → ranges_at (ranges_in s) (over_terms ts es) ≡ map (range_of values []) es
  terms_ranges es = λ j. map (range_of (take_whole values (length ts) ranged j) (drop_whole values (length ts) ranged j)) es

pub range_is : (ds : List Range) (e : Expr) (a : Spread) → bounded ds [] e ≡ Some a → range_of ds [] e ≡ a.range
range_is ds e a h = ap (λ (x : Spread). x.range) (spread_is ds [] e a h).0

-- a variable's interval is its own, and it may be a dimension
pub variable_small : (s : Scope) (n : Name) (r : Range) → s n ≡ Some (Variable r) → is_small_dimension s n ≡ true
unfolding is_small_dimension
variable_small s n r h = ap binding_is_small h

pub variable_range : (s : Scope) (n : Name) (r : Range) → s n ≡ Some (Variable r) → ranges_in s n ≡ r
unfolding ranges_in
variable_range s n r h = ap range_of_binding h

-- ---- the statements
module _ (own : Name → Bool) (name : ℕ → Name) (names : MadeNames own name) where
  abbrev pub Later : ℕ → ℕ → Type 0
  Later k i = 7 + 4 * k ≤ i

  zero_bounded : (s : Scope) (n : Name) (r : Range) → s n ≡ Some (Variable r) → Inside r → access_bounded s (value_or_zero n) ≡ true
  unfolding access_bounded
  zero_bounded s n r e h =
      let one : list_all (has_interval (ranges_in s n ∷ []) []) (Dim 0 ∷ Const (pos 0) ∷ []) ≡ true =
      λ i. interval_some (ranges_in s n ∷ []) [] (Dim 0) _ (dim_is (ranges_in s n ∷ []) [] 0 r (variable_range s n r e) h) i && (interval_some (ranges_in s n ∷ []) [] (Const (pos 0)) _ (const_is (ranges_in s n ∷ []) [] (pos 0) refl) i && true) in
      λ i. (variable_small s n r e i && true) && one i

  pub zero_ranges : (s : Scope) (n : Name) (r : Range) → s n ≡ Some (Variable r) → Inside r → ranges_at (ranges_in s) (value_or_zero n) ≡ r ∷ only (pos 0) ∷ []
  zero_ranges s n r e h =
      let ds = ranges_in s n ∷ [] in
      λ i. range_is ds (Dim 0) _ (dim_is ds [] 0 r (variable_range s n r e) h) i ∷ range_is ds (Const (pos 0)) _ (const_is ds [] (pos 0) refl) i ∷ []

  place_bounded : (k : ℕ) (d : Dimension) (ts : List (Name × ℤ)) (r : Range) (s : Scope) (rest : Nest) → is_outside (last_place d) ≡ false → PlaceFits s d ts r
      → ((t : Scope) → Changes name (Later k) s t → BeginIs t (begin name k d ts) r → Inside r → bounded_in rest t ≡ true) → bounded_in (place_statement name k d ts rest) s ≡ true
  place_bounded k d [] r s rest last h more = more s (λ n a. refl) h.0 h.1
  place_bounded k d (t ∷ ts) r s rest last h more = by d.clamped h.3
    where
      e : Spread
      e = h.1

      is : bounded (values s (t ∷ ts)) [] (form (t ∷ ts) d.offset) ≡ Some e
      is = h.2

      inside : Inside e.range
      inside = (spread_is (values s (t ∷ ts)) [] (form (t ∷ ts) d.offset) e is).1

      by : (b : Bool) → r ≡ clamped_by b d e.range
          → bounded_in (cond b
          (Does 0 (Value (least_name name k) Min (over_terms (t ∷ ts) (form (t ∷ ts) d.offset ∷ Const (last_place d) ∷ []))) (Does 0 (Value (place_name name k) Max (value_or_zero (least_name name k))) rest))
          (Does 0 (Value (place_name name k) Apply (over_terms (t ∷ ts) (form (t ∷ ts) d.offset ∷ []))) rest)) s ≡ true
      by false f =
          let all : list_all (has_interval (values s (t ∷ ts)) []) (form (t ∷ ts) d.offset ∷ []) ≡ true = λ i. interval_some (values s (t ∷ ts)) [] (form (t ∷ ts) d.offset) e is i && true in
          let value : picked_range Apply (ranges_at (ranges_in s) (over_terms (t ∷ ts) (form (t ∷ ts) d.offset ∷ []))) ≡ r =
          ap (picked_range Apply) (terms_ranges s (t ∷ ts) (form (t ∷ ts) d.offset ∷ [])) ∙ range_is (values s (t ∷ ts)) (form (t ∷ ts) d.offset) e is ∙ sym f in
          let s' = put s (place_name name k) (Some (Variable (picked_range Apply (ranges_at (ranges_in s) (over_terms (t ∷ ts) (form (t ∷ ts) d.offset ∷ [])))))) in
          λ i. terms_bounded s (t ∷ ts) (form (t ∷ ts) d.offset ∷ []) h.0 all i
          && more s' (changes_put name (Later k) s (7 + 4 * k) _ (omega arith)) (put-same s (place_name name k) _ (place_name name k) (same_name-refl (place_name name k)) ∙ ap (λ x. Some (Variable x)) value) (subst Inside (sym f) inside) i
      by true f =
          let es = form (t ∷ ts) d.offset ∷ Const (last_place d) ∷ [] in
          let ds = values s (t ∷ ts) in
          let all : list_all (has_interval ds []) es ≡ true = λ i. interval_some ds [] (form (t ∷ ts) d.offset) e is i && (interval_some ds [] (Const (last_place d)) _ (const_is ds [] (last_place d) last) i && true) in
          let low : Range = record { least = int_min e.range.least (last_place d); greatest = int_min e.range.greatest (last_place d) } in
          let low_inside : Inside low = (min_inside e.range.least (last_place d) inside.0 last, min_inside e.range.greatest (last_place d) inside.1 last) in
          let value : picked_range Min (ranges_at (ranges_in s) (over_terms (t ∷ ts) es)) ≡ low =
          ap (picked_range Min) (terms_ranges s (t ∷ ts) es ∙ (λ i. range_is ds (form (t ∷ ts) d.offset) e is i ∷ range_is ds (Const (last_place d)) _ (const_is ds [] (last_place d) last) i ∷ [])) in
          let s1 = put s (least_name name k) (Some (Variable (picked_range Min (ranges_at (ranges_in s) (over_terms (t ∷ ts) es))))) in
          let here : s1 (least_name name k) ≡ Some (Variable low) = put-same s (least_name name k) _ (least_name name k) (same_name-refl (least_name name k)) ∙ ap (λ x. Some (Variable x)) value in
          let value2 : picked_range Max (ranges_at (ranges_in s1) (value_or_zero (least_name name k))) ≡ r = ap (picked_range Max) (zero_ranges s1 (least_name name k) low here low_inside) ∙ sym f in
          let s2 = put s1 (place_name name k) (Some (Variable (picked_range Max (ranges_at (ranges_in s1) (value_or_zero (least_name name k)))))) in
          let changed : Changes name (Later k) s s2 = changes_then name (Later k) s s1 s2 (changes_put name (Later k) s (8 + 4 * k) _ (omega arith)) (changes_put name (Later k) s1 (7 + 4 * k) _ (omega arith)) in
          let zero_in : is_outside (pos 0) ≡ false = refl in
          let r_inside : Inside r = subst Inside (sym f) (max_inside low.least (pos 0) low_inside.0 zero_in, max_inside low.greatest (pos 0) low_inside.1 zero_in) in
          λ i. terms_bounded s (t ∷ ts) es h.0 all i
          && (zero_bounded s1 (least_name name k) low here low_inside i
          && more s2 changed (put-same s1 (place_name name k) _ (place_name name k) (same_name-refl (place_name name k)) ∙ ap (λ x. Some (Variable x)) value2) r_inside i)

  -- a place's interval is asked of the text's names alone
  place_along : (d : Dimension) (ts : List (Name × ℤ)) (r : Range) (s t : Scope) → Agree own s t → OwnNames own (term_names ts) → PlaceFits s d ts r → PlaceFits t d ts r
  place_along d [] r s t same o h = h
  place_along d (x ∷ ts) r s t same o h =
      (smalls_same own s t same (term_names (x ∷ ts)) o ∙ h.0, h.1, (λ i. bounded (ranges_same own s t same (term_names (x ∷ ts)) o i) [] (form (x ∷ ts) d.offset)) ∙ h.2, h.3)

  pub places_along : (ds : List Dimension) (rs : List Range) (s t : Scope) → Agree own s t → OwnDims own ds → PlacesFit s ds rs → PlacesFit t ds rs
  places_along [] [] s t same o h = tt
  places_along [] (r ∷ rs) s t same o h = absurd h
  places_along (d ∷ ds) [] s t same o h = absurd h
  places_along (d ∷ ds) (r ∷ rs) s t same o h = (place_along d d.terms r s t same o.0 h.0, places_along ds rs s t same o.1 h.1)

  begin_along : (k : ℕ) (d : Dimension) (ts : List (Name × ℤ)) (r : Range) (s t : Scope) → t (place_name name k) ≡ s (place_name name k) → BeginIs s (begin name k d ts) r → BeginIs t (begin name k d ts) r
  begin_along k d [] r s t e h = h
  begin_along k d (x ∷ ts) r s t e h = e ∙ h

  -- other made names don't matter
  pub begun_along : (P : ℕ → Type 0) → ((d : ℕ) → P (7 + 4 * d) → ⊥) → (k : ℕ) (ds : List Dimension) (rs : List Range) (s t : Scope) → Changes name P s t → Begun s (begins_from name k ds) rs → Begun t (begins_from name k ds) rs
  begun_along P misses k [] [] s t c h = tt
  begun_along P misses k [] (r ∷ rs) s t c h = absurd h
  begun_along P misses k (d ∷ ds) [] s t c h = absurd h
  begun_along P misses k (d ∷ ds) (r ∷ rs) s t c h = (begin_along k d d.terms r s t (changes_kept name own names P s t (7 + 4 * k) c (misses k)) h.0, h.1, begun_along P misses (suc k) ds rs s t c h.2)

  pub places_bounded : (k : ℕ) (ds : List Dimension) (rs : List Range) (s : Scope) (rest : Nest) → Sized ds → OwnDims own ds → PlacesFit s ds rs
      → ((t : Scope) → Changes name (Later k) s t → Begun t (begins_from name k ds) rs → bounded_in rest t ≡ true) → bounded_in (places_from name k ds rest) s ≡ true
  places_bounded k [] [] s rest z o h more = more s (λ n a. refl) tt
  places_bounded k [] (r ∷ rs) s rest z o h more = absurd h
  places_bounded k (d ∷ ds) [] s rest z o h more = absurd h
  places_bounded k (d ∷ ds) (r ∷ rs) s rest z o h more =
      place_bounded k d d.terms r s (places_from name (suc k) ds rest) (last_inside d z.0 z.1 z.2) h.0
      (λ t c b inside. places_bounded (suc k) ds rs t rest z.3 o.1 (places_along ds rs s t (changes_own name own names (Later k) s t c) o.1 h.1)
      (λ u c' begun. more u (changes_then name (Later k) s t u c (changes_more name (Later (suc k)) (Later k) (λ i l. omega (arith, l)) t u c'))
      (begin_along k d d.terms r t u (changes_kept name own names (Later (suc k)) t u (7 + 4 * k) c' (λ l. omega (arith, l))) b, inside, begun)))
