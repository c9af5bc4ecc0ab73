-- What the rule on intervals says at a loop with the template round it: of the places, of the copies and of the redirected statements.
use Rattle.std.proofs.Common.{◌≡◌, ◌⊎◌, inl, inr, ℕ, suc, ◌+◌, ◌*◌, ℤ, pos, Bool, true, false, cond, List, [], ◌∷◌, ◌++◌, length, map, refl, sym, ap, ◌∙◌, subst, arith}
use Rattle.std.specs.Prelude.{◌&&◌, Option, Some, None}
use Rattle.std.specs.List.{list_all}
use Rattle.std.specs.Int.{int_min}
use Rattle.std.proofs.lemmas.Bool.{and_parts}
use Rattle.std.proofs.lemmas.Int.{ints, clamps}
use Rattle.std.proofs.lemmas.List.{length-append}
use Rattle.affine_expr.specs.declared.expr.Expr.{Dim, Const}
use Rattle.affine_expr.specs.Bounded.{bounded}
use Rattle.affine_expr.specs.Spread.{Range, Spread, only}
use Rattle.affine_ast.specs.declared.name.Name.{Name}
use Rattle.affine_ast.specs.declared.types.Bound.{Bound}
use Rattle.affine_ast.specs.declared.types.Pick.TheVariants.{Apply, Min, Max}
use Rattle.affine_ast.specs.Intervals.{ranges_at, picked_range, first_turn, last_end, turn_range}
use Rattle.affine_ast.specs.Names.{put}
use Rattle.affine_ast.proofs.Names.{put-same, same_name-refl}
use Rattle.affine_ast.specs.Nest.{Nest, Nothing, Loop, Branch, Does, Value, Load, Store, followed_by}
use Rattle.affine_ast.specs.Rules.{has_interval, access_bounded, bound_bounded, is_small}
use Rattle.affine_ast.specs.Scope.{Binding, Variable, Scope, ranges_in}
use Rattle.placement_texts.specs.Mapped.{mapped}
use Rattle.placement_texts.specs.Own.{OwnNames, MadeNames}
use Rattle.placement_texts.specs.Regions.{OwnDims}
use Rattle.placement_texts.specs.Template.{Dimension, How, Copies, Transfers, Placement, place_name, least_name, fast_name, in_value, out_value, in_turn, out_turn, form, term_names, over_terms, last_place, clamp, value_or_zero, begin, begins, begins_from, named, place_statement, places_from, turn_names, turn_places, slow_at_turns, fast_at_turns, slow_at_places, place_exprs, slow_type, fast_type, loops, chunk_constants, constants, allocs, read_in, write_out, where_so, behind_loop, redirect, staged_loop}
use Rattle.placement_texts.specs.Tests.{behind_scope, loop_scope}
use Rattle.plan_laws.specs.Limits.{bounded_in}
use Rattle.placed_intervals.specs.Fits.{Inside, clamped_by, CopiesFit, Sized}
use Rattle.placed_intervals.proofs.Ranges.{const_of, dim_of}
use Rattle.placed_intervals.proofs.Scopes.{Agree, ranges_same}
use Rattle.placed_intervals.proofs.Front.{Changes, changes_then, changes_put, changes_more, changes_own, changes_kept, BeginIs, Later, length_terms, range_is, values, terms_ranges, zero_ranges, variable_range}
use Rattle.placed_intervals.proofs.Copies.{turn_interval, Turned, From, turned_along, length_begins, length_map, length_turns, turns_at, map_append}
use Rattle.placed_intervals.proofs.Redirects.{some_interval}
use Rattle.placed_intervals.proofs.Block.{scope_after, NoPlace, loops_beside}
use Rattle.interval_tests.proofs.Backward.{BeginsAre, NumbersInside, stand_at, turn_places_give, place_exprs_give, all_dims_give}

-- the interval of a place, from its parts
abbrev pub PlaceGives : Scope → Dimension → List (Name × ℤ) → Range → Type 0
PlaceGives s d [] r = r ≡ only (cond d.clamped (clamp d d.offset) d.offset)
PlaceGives s d (t ∷ ts) r = (e : Spread) × (bounded (map (ranges_in s) (term_names (t ∷ ts))) [] (form (t ∷ ts) d.offset) ≡ Some e) × (r ≡ clamped_by d.clamped d e.range)

abbrev pub PlacesGive : Scope → List Dimension → List Range → Type 0
PlacesGive s [] [] = Unit {0}
PlacesGive s (d ∷ ds) (r ∷ rs) = PlaceGives s d d.terms r × PlacesGive s ds rs
PlacesGive s [] (r ∷ rs) = ⊥
PlacesGive s (d ∷ ds) [] = ⊥

followed_give : (part rest : Nest) (s : Scope) → bounded_in (followed_by part rest) s ≡ true → (bounded_in part s ≡ true) × (bounded_in rest (scope_after part s) ≡ true)
followed_give Nothing rest s h = (refl, h)
followed_give (Loop line v l u step body more) rest s h =
    let w = and_parts (bound_bounded s l && bound_bounded s u) _ h in
    let x = and_parts (bounded_in body (loop_scope v l u s)) (bounded_in (followed_by more rest) s) w.1 in
    let k = followed_give more rest s x.1 in
    ((λ i. w.0 i && (x.0 i && k.0 i)), k.1)
followed_give (Branch line set ns first has other more) rest s h =
    let w = and_parts _ _ h in
    let x = and_parts (bounded_in first s) _ w.1 in
    let y = and_parts (bounded_in other s) (bounded_in (followed_by more rest) s) x.1 in
    let k = followed_give more rest s y.1 in
    ((λ i. w.0 i && (x.0 i && (y.0 i && k.0 i))), k.1)
followed_give (Does line q more) rest s h =
    let w = and_parts _ (bounded_in (followed_by more rest) (behind_scope q s)) h in
    let k = followed_give more rest (behind_scope q s) w.1 in
    ((λ i. w.0 i && k.0 i), k.1)

module _ (own : Name → Bool) (p : Placement) (names : MadeNames own p.name) (sized : Sized p.dims) where
  -- ---- places
  record PlaceBack (k : ℕ) (d : Dimension) (ts : List (Name × ℤ)) (s : Scope) (rest : Nest) : Type 0 where
    range : Range
    gives : PlaceGives s d ts range
    after : Scope
    changes : Changes p.name (Later own p.name names k) s after
    begun : BeginIs after (begin p.name k d ts) range
    rest_ : bounded_in rest after ≡ true

  place_back : (k : ℕ) (d : Dimension) (ts : List (Name × ℤ)) (s : Scope) (rest : Nest) → bounded_in (place_statement p.name k d ts rest) s ≡ true → PlaceBack k d ts s rest
  place_back k d [] s rest h = record { range = only (cond d.clamped (clamp d d.offset) d.offset); gives = refl; after = s; changes = λ n a. refl; begun = refl; rest_ = h }
  place_back k d (t ∷ ts) s rest h = by d.clamped refl h
    where
      by : (b : Bool) → d.clamped ≡ b
          → bounded_in (cond b
          (Does 0 (Value (least_name p.name k) Min (over_terms (t ∷ ts) (form (t ∷ ts) d.offset ∷ Const (last_place d) ∷ []))) (Does 0 (Value (place_name p.name k) Max (value_or_zero (least_name p.name k))) rest))
          (Does 0 (Value (place_name p.name k) Apply (over_terms (t ∷ ts) (form (t ∷ ts) d.offset ∷ []))) rest)) s ≡ true → PlaceBack k d (t ∷ ts) s rest
      by false c j =
          let es = form (t ∷ ts) d.offset ∷ [] in
          let ds = values s (t ∷ ts) in
          let w = and_parts (access_bounded s (over_terms (t ∷ ts) es)) _ j in
          let all = all_dims_give s (term_names (t ∷ ts)) es (length (t ∷ ts)) (length_terms (t ∷ ts)) w.0 in
          let e = some_interval ds [] (form (t ∷ ts) d.offset) (and_parts (has_interval ds [] (form (t ∷ ts) d.offset)) _ all).0 in
          let value : picked_range Apply (ranges_at (ranges_in s) (over_terms (t ∷ ts) es)) ≡ e.0.range = ap (picked_range Apply) (terms_ranges s (t ∷ ts) es) ∙ range_is ds (form (t ∷ ts) d.offset) e.0 e.1 in
          let s' = put s (place_name p.name k) (Some (Variable (picked_range Apply (ranges_at (ranges_in s) (over_terms (t ∷ ts) es))))) in
          record {
            range = e.0.range;
            gives = (e.0, e.1, (λ i. clamped_by (sym c i) d e.0.range));
            after = s';
            changes = changes_put p.name (Later own p.name names k) s (7 + 4 * k) _ (omega arith);
            begun = put-same s (place_name p.name k) _ (place_name p.name k) (same_name-refl (place_name p.name k)) ∙ ap (λ x. Some (Variable x)) value;
            rest_ = w.1;
          }
      by true c j =
          let es = form (t ∷ ts) d.offset ∷ Const (last_place d) ∷ [] in
          let ds = values s (t ∷ ts) in
          let w = and_parts (access_bounded s (over_terms (t ∷ ts) es)) _ j in
          let all = all_dims_give s (term_names (t ∷ ts)) es (length (t ∷ ts)) (length_terms (t ∷ ts)) w.0 in
          let two = and_parts (has_interval ds [] (form (t ∷ ts) d.offset)) _ all in
          let e = some_interval ds [] (form (t ∷ ts) d.offset) two.0 in
          let last = some_interval ds [] (Const (last_place d)) (and_parts (has_interval ds [] (Const (last_place d))) _ two.1).0 in
          let last_is = (const_of ds [] (last_place d) last.0 last.1).0 in
          let low : Range = record { least = int_min e.0.range.least (last_place d); greatest = int_min e.0.range.greatest (last_place d) } in
          let value : picked_range Min (ranges_at (ranges_in s) (over_terms (t ∷ ts) es)) ≡ low =
          ap (picked_range Min) (terms_ranges s (t ∷ ts) es ∙ (λ i. range_is ds (form (t ∷ ts) d.offset) e.0 e.1 i ∷ (range_is ds (Const (last_place d)) last.0 last.1 ∙ last_is) i ∷ [])) in
          let s1 = put s (least_name p.name k) (Some (Variable (picked_range Min (ranges_at (ranges_in s) (over_terms (t ∷ ts) es))))) in
          let here : s1 (least_name p.name k) ≡ Some (Variable low) = put-same s (least_name p.name k) _ (least_name p.name k) (same_name-refl (least_name p.name k)) ∙ ap (λ x. Some (Variable x)) value in
          let x = and_parts (access_bounded s1 (value_or_zero (least_name p.name k))) _ w.1 in
          let zero_all = all_dims_give s1 (least_name p.name k ∷ []) (Dim 0 ∷ Const (pos 0) ∷ []) 1 refl x.0 in
          let first = some_interval (ranges_in s1 (least_name p.name k) ∷ []) [] (Dim 0) (and_parts (has_interval (ranges_in s1 (least_name p.name k) ∷ []) [] (Dim 0)) _ zero_all).0 in
          let first_is = dim_of (ranges_in s1 (least_name p.name k) ∷ []) [] 0 first.0 first.1 in
          let low_inside : Inside low = subst Inside (first_is.0 ∙ variable_range s1 (least_name p.name k) low here) first_is.1 in
          let value2 : picked_range Max (ranges_at (ranges_in s1) (value_or_zero (least_name p.name k))) ≡ clamped_by true d e.0.range = ap (picked_range Max) (zero_ranges own p.name names s1 (least_name p.name k) low here low_inside) in
          let s2 = put s1 (place_name p.name k) (Some (Variable (picked_range Max (ranges_at (ranges_in s1) (value_or_zero (least_name p.name k)))))) in
          record {
            range = clamped_by true d e.0.range;
            gives = (e.0, e.1, (λ i. clamped_by (sym c i) d e.0.range));
            after = s2;
            changes = changes_then p.name (Later own p.name names k) s s1 s2 (changes_put p.name (Later own p.name names k) s (8 + 4 * k) _ (omega arith)) (changes_put p.name (Later own p.name names k) s1 (7 + 4 * k) _ (omega arith));
            begun = put-same s1 (place_name p.name k) _ (place_name p.name k) (same_name-refl (place_name p.name k)) ∙ ap (λ x. Some (Variable x)) value2;
            rest_ = x.1;
          }

  gives_along : (d : Dimension) (ts : List (Name × ℤ)) (r : Range) (s t : Scope) → Agree own s t → OwnNames own (term_names ts) → PlaceGives t d ts r → PlaceGives s d ts r
  gives_along d [] r s t same o h = h
  gives_along d (x ∷ ts) r s t same o h = (h.0, (λ i. bounded (sym (ranges_same own s t same (term_names (x ∷ ts)) o) i) [] (form (x ∷ ts) d.offset)) ∙ h.1, h.2)

  all_along : (ds : List Dimension) (rs : List Range) (s t : Scope) → Agree own s t → OwnDims own ds → PlacesGive t ds rs → PlacesGive s ds rs
  all_along [] [] s t same o h = tt
  all_along [] (r ∷ rs) s t same o h = absurd h
  all_along (d ∷ ds) [] s t same o h = absurd h
  all_along (d ∷ ds) (r ∷ rs) s t same o h = (gives_along d d.terms r s t same o.0 h.0, all_along ds rs s t same o.1 h.1)

  begin_along : (k : ℕ) (d : Dimension) (ts : List (Name × ℤ)) (r : Range) (s t : Scope) → t (place_name p.name k) ≡ s (place_name p.name k) → BeginIs s (begin p.name k d ts) r → BeginIs t (begin p.name k d ts) r
  begin_along k d [] r s t e h = h
  begin_along k d (x ∷ ts) r s t e h = e ∙ h

  -- where the names that say places are as they were
  pub begins_along : (k : ℕ) (ds : List Dimension) (rs : List Range) (s t : Scope) → ((d : ℕ) → t (p.name (7 + 4 * d)) ≡ s (p.name (7 + 4 * d))) → BeginsAre s (begins_from p.name k ds) rs → BeginsAre t (begins_from p.name k ds) rs
  begins_along k [] [] s t e h = tt
  begins_along k [] (r ∷ rs) s t e h = absurd h
  begins_along k (d ∷ ds) [] s t e h = absurd h
  begins_along k (d ∷ ds) (r ∷ rs) s t e h = (begin_along k d d.terms r s t (e k) h.0, begins_along (suc k) ds rs s t e h.1)

  record PlacesBack (k : ℕ) (ds : List Dimension) (s : Scope) (rest : Nest) : Type 0 where
    ranges : List Range
    gives : PlacesGive s ds ranges
    after : Scope
    changes : Changes p.name (Later own p.name names k) s after
    begun : BeginsAre after (begins_from p.name k ds) ranges
    rest_ : bounded_in rest after ≡ true

  places_back : (k : ℕ) (ds : List Dimension) (s : Scope) (rest : Nest) → OwnDims own ds → bounded_in (places_from p.name k ds rest) s ≡ true → PlacesBack k ds s rest
  places_back k [] s rest o h = record { ranges = []; gives = tt; after = s; changes = λ n a. refl; begun = tt; rest_ = h }
  places_back k (d ∷ ds) s rest o h =
      let x = place_back k d d.terms s (places_from p.name (suc k) ds rest) h in
      let y = places_back (suc k) ds x.after rest o.1 x.rest_ in
      record {
        ranges = x.range ∷ y.ranges;
        gives = (x.gives, all_along ds y.ranges s x.after (changes_own p.name own names (Later own p.name names k) s x.after x.changes) o.1 y.gives);
        after = y.after;
        changes = changes_then p.name (Later own p.name names k) s x.after y.after x.changes (changes_more p.name (Later own p.name names (suc k)) (Later own p.name names k) (λ i l. omega (arith, l)) x.after y.after y.changes);
        begun = (begin_along k d d.terms x.range x.after y.after (changes_kept p.name own names (Later own p.name names (suc k)) x.after y.after (7 + 4 * k) y.changes (λ l. omega (arith, l))) x.begun, y.begun);
        rest_ = y.rest_;
      }

  -- ---- constants and allocations
  abbrev Beside : Scope → Scope → Type 0
  Beside = Changes p.name NoPlace

  record Then (rest : Nest) (s : Scope) : Type 0 where
    after : Scope
    beside : Beside s after
    rest_ : bounded_in rest after ≡ true

  one_put : (rest : Nest) (s : Scope) (i : ℕ) (b : Binding) → NoPlace i → Then rest (put s (p.name i) (Some b)) → Then rest s
  one_put rest s i b misses h = record { after = h.after; beside = changes_then p.name NoPlace s _ h.after (changes_put p.name NoPlace s i b misses) h.beside; rest_ = h.rest_ }

  now : (rest : Nest) (s : Scope) → bounded_in rest s ≡ true → Then rest s
  now rest s h = record { after = s; beside = λ n a. refl; rest_ = h }

  chunks_back : (chunks : Option (ℕ × ℕ)) (rest : Nest) (s : Scope) → bounded_in (chunk_constants p chunks rest) s ≡ true → Then rest s
  chunks_back None rest s h = now rest s h
  chunks_back (Some two) rest s h = one_put rest s 3 _ (λ d e. omega (arith, e)) (one_put rest _ 4 _ (λ d e. omega (arith, e)) (now rest _ h))

  constants_back : (how : How) (rest : Nest) (s : Scope) → bounded_in (constants p how rest) s ≡ true → Then rest s
  constants_back Copies rest s h = now rest s h
  constants_back (Transfers chunks) rest s h = one_put rest s 2 _ (λ d e. omega (arith, e)) (chunks_back chunks rest _ h)

  allocs_back : (how : How) (rest : Nest) (s : Scope) → bounded_in (allocs p how rest) s ≡ true → Then rest s
  allocs_back Copies rest s h = one_put rest s 0 _ (λ d e. omega (arith, e)) (now rest _ h)
  allocs_back (Transfers chunks) rest s h = one_put rest s 0 _ (λ d e. omega (arith, e)) (one_put rest _ 1 _ (λ d e. omega (arith, e)) (now rest _ h))

  -- ---- copies
  reads_beside : (how : How) (s : Scope) → Beside s (scope_after (read_in p how) s)
  reads_beside Copies s =
      loops_beside p.name (in_turn p.name) 0 p.dims
      (Does 0 (Load (in_value p.name) p.memref (slow_at_turns (in_turn p.name) (begins p)) (slow_type p)) (Does 0 (Store (in_value p.name) (fast_name p.name) (fast_at_turns (in_turn p.name) (begins p)) (fast_type p)) Nothing)) s
      (changes_put p.name NoPlace s 5 _ (λ d e. omega (arith, e)))
  reads_beside (Transfers chunks) s = λ n a. refl

  record SoBack (b : Bool) (part rest : Nest) (s : Scope) : Type 0 where
    part_ : b ≡ true → bounded_in part s ≡ true
    then_ : Then rest s

  so_back : (b : Bool) (part rest : Nest) (s : Scope) → Beside s (scope_after part s) → bounded_in (where_so p b part rest) s ≡ true → SoBack b part rest s
  so_back true part rest s c h = let k = followed_give part rest s h in record { part_ = λ e. k.0; then_ = record { after = scope_after part s; beside = c; rest_ = k.1 } }
  so_back false part rest s c h = record { part_ = λ e. absurd (let z : ⊥ = cc in z); then_ = now rest s h }

  module _ (f : ℕ → ℕ) (one_to_one : (a b : ℕ) → f a ≡ f b → a ≡ b) (f_places : (a b : ℕ) → f a ≡ 7 + 4 * b → ⊥) where
    abbrev turn : ℕ → Name
    turn d = p.name (f d)

    abbrev Turns : Scope → ℕ → List Dimension → Type 0
    Turns = Turned own p.name names f one_to_one

    abbrev Fresh : ℕ → ℕ → Type 0
    Fresh = From own p.name names f one_to_one

    record LoopsBack (d : ℕ) (ds : List Dimension) (s : Scope) (inner : Nest) : Type 0 where
      after : Scope
      changes : Changes p.name (Fresh d) s after
      turned : Turns after d ds
      inner_ : bounded_in inner after ≡ true

    loops_back : (d : ℕ) (ds : List Dimension) (s : Scope) (inner : Nest) → Sized ds → bounded_in (loops turn d ds inner) s ≡ true → LoopsBack d ds s inner
    unfolding first_turn last_end
    loops_back d [] s inner z h = record { after = s; changes = λ n a. refl; turned = tt; inner_ = h }
    loops_back d (x ∷ ds) s inner z h =
        let v = put s (turn d) (Some (Variable (turn_range (pos 0) (pos x.extent)))) in
        let least = z.0 in
        let range : turn_range (pos 0) (pos x.extent) ≡ turn_interval x = ap (λ g. record { least = pos 0; greatest = g }) (omega (arith, ints, clamps, least)) in
        let here : v (turn d) ≡ Some (Variable (turn_interval x)) = put-same s (turn d) _ (turn d) (same_name-refl (turn d)) ∙ ap (λ r. Some (Variable r)) range in
        let w = and_parts (is_small (pos x.extent)) (bounded_in (loops turn (suc d) ds inner) v && true) h in
        let y = loops_back (suc d) ds v inner z.3 (and_parts (bounded_in (loops turn (suc d) ds inner) v) true w.1).0 in
        record {
          after = y.after;
          changes = changes_then p.name (Fresh d) s v y.after (changes_put p.name (Fresh d) s (f d) _ (d, omega arith, refl)) (changes_more p.name (Fresh (suc d)) (Fresh d) (λ i w. (w.0, (let l = w.1 in omega (arith, l)), w.2)) v y.after y.changes);
          turned = (changes_kept p.name own names (Fresh (suc d)) v y.after (f d) y.changes (λ w. let e = one_to_one d w.0 w.2 in let l = w.1 in omega (arith, e, l)) ∙ here, y.turned);
          inner_ = y.inner_;
        }

    slow_gives : (s : Scope) (rs : List Range) → Turns s 0 p.dims → BeginsAre s (begins p) rs → access_bounded s (slow_at_turns turn (begins p)) ≡ true → CopiesFit Copies p.dims rs × NumbersInside (begins p) rs
    slow_gives s rs h are k =
        let bs = begins p in
        let turns = turn_names turn 0 bs in
        let ops = turns ++ named bs in
        let long : length ops ≡ length bs + length (named bs) = length-append turns (named bs) ∙ ap (λ n. n + length (named bs)) (length_turns turn 0 bs) in
        let has = all_dims_give s ops (turn_places 0 (length bs) bs) (length bs + length (named bs)) long k in
        let L = map (ranges_in s) turns ++ map (ranges_in s) (named bs) in
        turn_places_give L 0 (length bs) bs p.dims rs (length_begins p.name 0 p.dims) sized (turns_at own p.name names f one_to_one s [] (map (ranges_in s) (named bs)) 0 0 0 p.dims refl h)
        (stand_at s (map (ranges_in s) turns) (length bs) bs rs (length_map (ranges_in s) turns ∙ length_turns turn 0 bs) are)
        (subst (λ l. list_all (has_interval l []) (turn_places 0 (length bs) bs) ≡ true) (map_append own p.name names f one_to_one s (ranges_in s) turns (named bs)) has)

    -- places are none of the turns
    turns_keep : (s t : Scope) → Changes p.name (Fresh 0) s t → (d : ℕ) → t (p.name (7 + 4 * d)) ≡ s (p.name (7 + 4 * d))
    turns_keep s t c d = changes_kept p.name own names (Fresh 0) s t (7 + 4 * d) c (λ w. f_places w.0 d (sym w.2))

  in_apart : (a b : ℕ) → 9 + 4 * a ≡ 9 + 4 * b → a ≡ b
  in_apart a b e = omega (arith, e)

  out_apart : (a b : ℕ) → 10 + 4 * a ≡ 10 + 4 * b → a ≡ b
  out_apart a b e = omega (arith, e)

  in_places : (a b : ℕ) → 9 + 4 * a ≡ 7 + 4 * b → ⊥
  in_places a b e = omega (arith, e)

  out_places : (a b : ℕ) → 10 + 4 * a ≡ 7 + 4 * b → ⊥
  out_places a b e = omega (arith, e)

  abbrev pub Gains : How → List Range → Type 0
  Gains how rs = CopiesFit how p.dims rs × NumbersInside (begins p) rs

  reads_give : (how : How) (s : Scope) (rs : List Range) → BeginsAre s (begins p) rs → bounded_in (read_in p how) s ≡ true → Gains how rs
  reads_give Copies s rs are h =
      let inner = Does 0 (Load (in_value p.name) p.memref (slow_at_turns (in_turn p.name) (begins p)) (slow_type p)) (Does 0 (Store (in_value p.name) (fast_name p.name) (fast_at_turns (in_turn p.name) (begins p)) (fast_type p)) Nothing) in
      let x = loops_back (λ d. 9 + 4 * d) in_apart in_places 0 p.dims s inner sized h in
      let w = and_parts (access_bounded x.after (slow_at_turns (in_turn p.name) (begins p))) _ x.inner_ in
      slow_gives (λ d. 9 + 4 * d) in_apart in_places x.after rs x.turned (begins_along 0 p.dims rs s x.after (turns_keep (λ d. 9 + 4 * d) in_apart in_places s x.after x.changes) are) w.0
  reads_give (Transfers chunks) s rs are h =
      let w = and_parts (access_bounded s (slow_at_places (begins p)) && _) _ h in
      let x = and_parts (access_bounded s (slow_at_places (begins p))) _ w.0 in
      (tt, place_exprs_give (map (ranges_in s) (named (begins p))) 0 (begins p) rs (stand_at s [] 0 (begins p) rs refl are) (all_dims_give s (named (begins p)) (place_exprs 0 (begins p)) (length (named (begins p))) refl x.0))

  writes_give : (how : How) (s : Scope) (rs : List Range) → BeginsAre s (begins p) rs → bounded_in (write_out p how) s ≡ true → Gains how rs
  writes_give Copies s rs are h =
      let inner = Does 0 (Load (out_value p.name) (fast_name p.name) (fast_at_turns (out_turn p.name) (begins p)) (fast_type p)) (Does 0 (Store (out_value p.name) p.memref (slow_at_turns (out_turn p.name) (begins p)) (slow_type p)) Nothing) in
      let x = loops_back (λ d. 10 + 4 * d) out_apart out_places 0 p.dims s inner sized h in
      let t = behind_scope (Load (out_value p.name) (fast_name p.name) (fast_at_turns (out_turn p.name) (begins p)) (fast_type p)) x.after in
      let six : Changes p.name (λ i. i ≡ 6) x.after t = changes_put p.name (λ i. i ≡ 6) x.after 6 _ refl in
      let w = and_parts (access_bounded x.after (fast_at_turns (out_turn p.name) (begins p))) _ x.inner_ in
      let y = and_parts (access_bounded t (slow_at_turns (out_turn p.name) (begins p))) _ w.1 in
      slow_gives (λ d. 10 + 4 * d) out_apart out_places t rs (turned_along own p.name names (λ d. 10 + 4 * d) out_apart (λ i. i ≡ 6) (λ e h. omega (arith, h)) x.after t six 0 p.dims x.turned)
      (begins_along 0 p.dims rs x.after t (λ d. changes_kept p.name own names (λ i. i ≡ 6) x.after t (7 + 4 * d) six (λ e. omega (arith, e)))
      (begins_along 0 p.dims rs s x.after (turns_keep (λ d. 10 + 4 * d) out_apart out_places s x.after x.changes) are)) y.0
  writes_give (Transfers chunks) s rs are h =
      let w = and_parts (_ && (access_bounded s (slow_at_places (begins p)) && _)) _ h in
      let x = and_parts _ (access_bounded s (slow_at_places (begins p)) && _) w.0 in
      let y = and_parts (access_bounded s (slow_at_places (begins p))) _ x.1 in
      (tt, place_exprs_give (map (ranges_in s) (named (begins p))) 0 (begins p) rs (stand_at s [] 0 (begins p) rs refl are) (all_dims_give s (named (begins p)) (place_exprs 0 (begins p)) (length (named (begins p))) refl y.0))

  -- ---- the whole
  pub record BlockBack (v : Name) (l u : Bound) (body : Nest) (s : Scope) : Type 0 where
    pub ranges : List Range
    pub gives : PlacesGive s p.dims ranges
    pub gains : Gains p.how ranges
    pub after : Scope
    pub agrees : Agree own s after
    pub begun : BeginsAre after (begins p) ranges
    pub body_ : bounded_in (mapped (redirect p) body) (loop_scope v l u after) ≡ true

  beside_begins : (rs : List Range) (s t : Scope) → Beside s t → BeginsAre s (begins p) rs → BeginsAre t (begins p) rs
  beside_begins rs s t c h = begins_along 0 p.dims rs s t (λ d. changes_kept p.name own names NoPlace s t (7 + 4 * d) c (λ k. k d refl)) h

  writes_beside : (how : How) (s : Scope) → Beside s (scope_after (write_out p how) s)
  writes_beside Copies s =
      loops_beside p.name (out_turn p.name) 0 p.dims
      (Does 0 (Load (out_value p.name) (fast_name p.name) (fast_at_turns (out_turn p.name) (begins p)) (fast_type p)) (Does 0 (Store (out_value p.name) p.memref (slow_at_turns (out_turn p.name) (begins p)) (slow_type p)) Nothing)) s
      (changes_put p.name NoPlace s 6 _ (λ d e. omega (arith, e)))
  writes_beside (Transfers chunks) s = λ n a. refl

  pub block_back : (p.reads ≡ true) ⊎ (p.writes ≡ true) → OwnDims own p.dims → (line : ℕ) (v : Name) (l u : Bound) (step : ℤ) (body rest : Nest) (s : Scope) → bounded_in (staged_loop p (Loop line v l u step body rest) rest) s ≡ true → BlockBack v l u body s
  block_back some dims line v l u step body rest s h =
      let x1 = places_back 0 p.dims s _ dims h in
      let x2 = constants_back p.how _ x1.after x1.rest_ in
      let x3 = allocs_back p.how _ x2.after x2.rest_ in
      let x4 = so_back p.reads (read_in p p.how) _ x3.after (reads_beside p.how x3.after) x3.rest_ in
      let t4 = x4.then_.after in
      let w = and_parts (bound_bounded t4 l && bound_bounded t4 u) _ x4.then_.rest_ in
      let y = and_parts (bounded_in (mapped (redirect p) body) (loop_scope v l u t4)) (bounded_in (behind_loop p rest) t4) w.1 in
      let x5 = so_back p.writes (write_out p p.how) _ t4 (writes_beside p.how t4) y.1 in
      let b3 = beside_begins x1.ranges x2.after x3.after x3.beside (beside_begins x1.ranges x1.after x2.after x2.beside x1.begun) in
      let b4 = beside_begins x1.ranges x3.after t4 x4.then_.beside b3 in
      record {
        ranges = x1.ranges;
        gives = x1.gives;
        gains = gained some (λ e. reads_give p.how x3.after x1.ranges b3 (x4.part_ e)) (λ e. writes_give p.how t4 x1.ranges b4 (x5.part_ e));
        after = t4;
        agrees = λ n o. changes_own p.name own names NoPlace x3.after t4 x4.then_.beside n o ∙ changes_own p.name own names NoPlace x2.after x3.after x3.beside n o ∙ changes_own p.name own names NoPlace x1.after x2.after x2.beside n o ∙ changes_own p.name own names (Later own p.name names 0) s x1.after x1.changes n o;
        begun = b4;
        body_ = y.0;
      }
    where
      gained : {A : Type 0} → (p.reads ≡ true) ⊎ (p.writes ≡ true) → (p.reads ≡ true → A) → (p.writes ≡ true → A) → A
      gained (inl e) a b = a e
      gained (inr e) a b = b e
