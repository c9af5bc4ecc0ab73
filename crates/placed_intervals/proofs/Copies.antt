-- The copy loops, the transfers and the allocations of a template keep to the rule on intervals.
use Rattle.std.proofs.Common.{◌≡◌, ℕ, suc, ◌+◌, ◌-◌, ◌≤◌, ℤ, pos, neg_ℤ, ◌+ℤ◌, ◌-ℤ◌, Bool, true, false, cond, List, [], ◌∷◌, ◌++◌, length, get_or, map, refl, sym, ap, ◌∙◌, subst, arith}
use Rattle.std.specs.Prelude.{◌&&◌, not, Some, None, int_lt}
use Rattle.std.specs.Ordering.{int_eq}
use Rattle.std.specs.List.{list_all}
use Rattle.std.proofs.lemmas.Int.{ints, clamps}
use Rattle.std.proofs.lemmas.List.{get_or-append_right, length-append, append_assoc}
use Rattle.affine_expr.specs.declared.expr.Expr.{Expr, Dim, Const, Add, Sub}
use Rattle.affine_expr.specs.Bounded.{bounded}
use Rattle.affine_expr.specs.Pure.{is_outside}
use Rattle.affine_expr.specs.Spread.{Range, only}
use Rattle.affine_expr.proofs.Limits.{is_inside, not_outside}
use Rattle.affine_ast.specs.declared.name.Name.{Name}
use Rattle.affine_ast.specs.Intervals.{first_turn, last_end, turn_range}
use Rattle.affine_ast.specs.Names.{put}
use Rattle.affine_ast.proofs.Names.{put-same, same_name-refl}
use Rattle.affine_ast.specs.Nest.{Nest}
use Rattle.affine_ast.specs.Rules.{is_small_dimension, has_interval, access_bounded}
use Rattle.affine_ast.specs.Scope.{Variable, Scope, ranges_in}
use Rattle.placement_texts.specs.Own.{MadeNames}
use Rattle.placement_texts.specs.Template.{Dimension, plus, Begin, Fixed, Named, begins_from, named, turn_names, turn_dims, turn_places, slow_at_turns, fast_at_turns, place_exprs, slow_at_places, zeros, at_zeros, loops}
use Rattle.placement_texts.proofs.PlaceRun.{take_whole, drop_whole}
use Rattle.placement_texts.proofs.ScopedRedirect.{all_both}
use Rattle.plan_laws.specs.Limits.{bounded_in}
use Rattle.placed_intervals.specs.Fits.{Inside, CopiesFit, Sized}
use Rattle.placement_texts.specs.Template.{Copies}
use Rattle.placed_intervals.proofs.Ranges.{dim_is, const_is, add_is, sub_is}
use Rattle.placed_intervals.proofs.Front.{number_inside, Changes, changes_then, changes_put, changes_more, changes_kept, Begun, interval_some, variable_small, variable_range}

pub opposite_inside : (z : ℤ) → is_outside z ≡ false → is_outside (neg_ℤ z) ≡ false
opposite_inside z h =
    let i = is_inside z h in
    let l = i.low in
    let g = i.high in
    not_outside (neg_ℤ z) (record { low = omega (arith, ints, g); high = omega (arith, ints, l) })

-- the interval of a turn
abbrev pub turn_interval : Dimension → Range
turn_interval d = record { least = pos 0; greatest = pos d.extent -ℤ pos 1 }

pub turn_inside : (d : Dimension) → 1 ≤ d.extent → d.extent ≤ d.size → d.size ≤ 1048576 → Inside (turn_interval d)
turn_inside d a b c = (refl, not_outside (pos d.extent -ℤ pos 1) (record { low = omega (arith, ints, a); high = omega (arith, ints, b, c) }))

-- ---- intervals in a list, from a number on
abbrev pub TurnsAt : List Range → ℕ → List Dimension → Type 0
TurnsAt L d [] = Unit {0}
TurnsAt L d (x ∷ ds) = (get_or L d (only (pos 0)) ≡ turn_interval x) × TurnsAt L (suc d) ds

abbrev pub PlacesAt : List Range → ℕ → List Begin → List Range → Type 0
PlacesAt L k [] [] = Unit {0}
PlacesAt L k (Fixed z ∷ bs) (r ∷ rs) = (r ≡ only z) × Inside r × PlacesAt L k bs rs
PlacesAt L k (Named n ∷ bs) (r ∷ rs) = (get_or L k (only (pos 0)) ≡ r) × Inside r × PlacesAt L (suc k) bs rs
PlacesAt L k [] (r ∷ rs) = ⊥
PlacesAt L k (b ∷ bs) [] = ⊥

-- the first behind others
pub at_end : (front : List Range) (x : Range) (back : List Range) (k : ℕ) → length front ≡ k → get_or (front ++ x ∷ back) k (only (pos 0)) ≡ x
at_end front x back k h =
    get_or-append_right front (x ∷ back) k k (only (pos 0)) h (omega arith)
    ∙ ap (λ n. get_or (x ∷ back) n (only (pos 0))) (let e : k - k ≡ 0 = omega arith in e)

pub one_more : (xs : List Range) (x : Range) (k : ℕ) → length xs ≡ k → length (xs ++ x ∷ []) ≡ suc k
one_more xs x k h = let e = length-append xs (x ∷ []) in omega (arith, e, h)

module _ (s : Scope) where
  abbrev rho : Name → Range
  rho = ranges_in s

  pub places_at : (front : List Range) (k : ℕ) (bs : List Begin) (rs : List Range) → length front ≡ k → Begun s bs rs → PlacesAt (front ++ map rho (named bs)) k bs rs
  places_at front k [] [] l h = tt
  places_at front k [] (r ∷ rs) l h = absurd h
  places_at front k (b ∷ bs) [] l h = absurd h
  places_at front k (Fixed z ∷ bs) (r ∷ rs) l h = (h.0, h.1, places_at front k bs rs l h.2)
  places_at front k (Named n ∷ bs) (r ∷ rs) l h = (
    at_end front (rho n) (map rho (named bs)) k l ∙ variable_range s n r h.0,
    h.1,
    subst (λ L. PlacesAt L (suc k) bs rs) (append_assoc front (rho n ∷ []) (map rho (named bs))) (places_at (front ++ rho n ∷ []) (suc k) bs rs (one_more front (rho n) k l) h.2),
  )

  pub named_small : (bs : List Begin) (rs : List Range) → Begun s bs rs → list_all (is_small_dimension s) (named bs) ≡ true
  named_small [] [] h = refl
  named_small [] (r ∷ rs) h = absurd h
  named_small (b ∷ bs) [] h = absurd h
  named_small (Fixed z ∷ bs) (r ∷ rs) h = named_small bs rs h.2
  named_small (Named n ∷ bs) (r ∷ rs) h = λ i. variable_small s n r h.0 i && named_small bs rs h.2 i

-- ---- expressions over them
module _ (L : List Range) where
  abbrev Has : List Expr → Type 0
  Has es = list_all (has_interval L []) es ≡ true

  dim_has : (k : ℕ) (r : Range) → get_or L k (only (pos 0)) ≡ r → Inside r → has_interval L [] (Dim k) ≡ true
  dim_has k r e h = interval_some L [] (Dim k) _ (dim_is L [] k r e h)

  pub const_has : (z : ℤ) → is_outside z ≡ false → has_interval L [] (Const z) ≡ true
  const_has z h = interval_some L [] (Const z) _ (const_is L [] z h)

  zero_has : has_interval L [] (Const (pos 0)) ≡ true
  zero_has = const_has (pos 0) refl

  pub exprs_have : (k : ℕ) (bs : List Begin) (rs : List Range) → PlacesAt L k bs rs → Has (place_exprs k bs)
  exprs_have k [] [] h = refl
  exprs_have k [] (r ∷ rs) h = absurd h
  exprs_have k (b ∷ bs) [] h = absurd h
  exprs_have k (Fixed z ∷ bs) (r ∷ rs) h = λ i. const_has z (subst (λ (x : Range). is_outside x.least ≡ false) h.0 h.1.0) i && exprs_have k bs rs h.2 i
  exprs_have k (Named n ∷ bs) (r ∷ rs) h = λ i. dim_has k r h.0 h.1 i && exprs_have (suc k) bs rs h.2 i

  pub zeros_have : (bs : List Begin) → Has (zeros bs)
  zeros_have [] = refl
  zeros_have (b ∷ bs) = λ i. zero_has i && zeros_have bs i

  turns_have : (d : ℕ) (bs : List Begin) (ds : List Dimension) → length bs ≡ length ds → Sized ds → TurnsAt L d ds → Has (turn_dims d bs)
  turns_have d [] ds l z h = refl
  turns_have d (b ∷ bs) [] l z h = absurd (omega (arith, l))
  turns_have d (b ∷ bs) (x ∷ ds) l z h = λ i. dim_has d (turn_interval x) h.0 (turn_inside x z.0 z.1 z.2) i && turns_have (suc d) bs ds (omega (arith, l)) z.3 h.1 i

  -- `turn + number`
  plus_has : (d : ℕ) (x : Dimension) (z : ℤ) → Inside (turn_interval x) → get_or L d (only (pos 0)) ≡ turn_interval x → is_outside z ≡ false → is_outside (z +ℤ (pos x.extent -ℤ pos 1)) ≡ false → has_interval L [] (plus (Dim d) z) ≡ true
  plus_has d x z inside e low high = by (int_eq z (pos 0)) (int_lt z (pos 0))
    where
      dim : bounded L [] (Dim d) ≡ Some (record { range = turn_interval x; fixed = None })
      dim = dim_is L [] d (turn_interval x) e inside

      up : (a b : ℤ) → a ≡ z → b ≡ z +ℤ (pos x.extent -ℤ pos 1) → Inside (record { least = a; greatest = b })
      up a b p q = (ap is_outside p ∙ low, ap is_outside q ∙ high)

      by : (a b : Bool) → has_interval L [] (cond a (Dim d) (cond b (Sub (Dim d) (Const (neg_ℤ z))) (Add (Dim d) (Const z)))) ≡ true
      by true b = interval_some L [] (Dim d) _ dim
      by false true =
          interval_some L [] (Sub (Dim d) (Const (neg_ℤ z))) _
          (sub_is L [] (Dim d) (Const (neg_ℤ z)) _ _ dim (const_is L [] (neg_ℤ z) (opposite_inside z low)) (up (pos 0 -ℤ neg_ℤ z) ((pos x.extent -ℤ pos 1) -ℤ neg_ℤ z) (omega (arith, ints)) (omega (arith, ints))))
      by false false =
          interval_some L [] (Add (Dim d) (Const z)) _
          (add_is L [] (Dim d) (Const z) _ _ dim (const_is L [] z low) (up (pos 0 +ℤ z) ((pos x.extent -ℤ pos 1) +ℤ z) (omega (arith, ints)) (omega (arith, ints))))

  pub turn_places_have : (d k : ℕ) (bs : List Begin) (ds : List Dimension) (rs : List Range) → length bs ≡ length ds → Sized ds → CopiesFit Copies ds rs → TurnsAt L d ds → PlacesAt L k bs rs → Has (turn_places d k bs)
  turn_places_have d k [] ds rs l z f h p = refl
  turn_places_have d k (b ∷ bs) [] rs l z f h p = absurd (omega (arith, l))
  turn_places_have d k (b ∷ bs) (x ∷ ds) [] l z f h p = absurd p
  turn_places_have d k (Fixed c ∷ bs) (x ∷ ds) (r ∷ rs) l z f h p =
      let inside = turn_inside x z.0 z.1 z.2 in
      let g = subst (λ (y : Range). Inside (record { least = y.least; greatest = y.greatest +ℤ (pos x.extent -ℤ pos 1) })) p.0 f.0 in
      λ i. plus_has d x c inside h.0 g.0 g.1 i && turn_places_have (suc d) k bs ds rs (omega (arith, l)) z.3 f.1 h.1 p.2 i
  turn_places_have d k (Named n ∷ bs) (x ∷ ds) (r ∷ rs) l z f h p =
      let inside = turn_inside x z.0 z.1 z.2 in
      let high : (pos x.extent -ℤ pos 1) +ℤ r.greatest ≡ r.greatest +ℤ (pos x.extent -ℤ pos 1) = omega (arith, ints) in
      let low : pos 0 +ℤ r.least ≡ r.least = omega (arith, ints) in
      λ i. interval_some L [] (Add (Dim d) (Dim k)) _
      (add_is L [] (Dim d) (Dim k) _ _ (dim_is L [] d (turn_interval x) h.0 inside) (dim_is L [] k r p.0 p.1) (ap is_outside low ∙ f.0.0, ap is_outside high ∙ f.0.1)) i
      && turn_places_have (suc d) (suc k) bs ds rs (omega (arith, l)) z.3 f.1 h.1 p.2 i

  pub turns_have_ : (d : ℕ) (bs : List Begin) (ds : List Dimension) → length bs ≡ length ds → Sized ds → TurnsAt L d ds → Has (Const (pos 0) ∷ turn_dims d bs)
  turns_have_ d bs ds l z h = λ i. zero_has i && turns_have d bs ds l z h i

-- ---- accesses
pub length_map : (f : Name → Range) (ns : List Name) → length (map f ns) ≡ length ns
length_map f [] = refl
length_map f (n ∷ ns) = ap suc (length_map f ns)

-- over operands that are all dimensions
pub all_dims_bounded : (s : Scope) (ops : List Name) (es : List Expr) (n : ℕ) → length ops ≡ n → list_all (is_small_dimension s) ops ≡ true → list_all (has_interval (map (ranges_in s) ops) []) es ≡ true
    → access_bounded s (record { map = record { dims = n; syms = 0; results = es }; operands = ops }) ≡ true
unfolding access_bounded
all_dims_bounded s ops es n l h k =
    let ranged : length (map (ranges_in s) ops) ≡ n = length_map (ranges_in s) ops ∙ l in
    λ i. (ap (list_all (is_small_dimension s)) (take_whole ops n l) ∙ h) i
    && ((λ j. list_all (has_interval (take_whole (map (ranges_in s) ops) n ranged j) (drop_whole (map (ranges_in s) ops) n ranged j)) es) ∙ k) i

pub length_begins : (name : ℕ → Name) (k : ℕ) (ds : List Dimension) → length (begins_from name k ds) ≡ length ds
length_begins name k [] = refl
length_begins name k (d ∷ ds) = ap suc (length_begins name (suc k) ds)

pub length_turns : (turn : ℕ → Name) (d : ℕ) (bs : List Begin) → length (turn_names turn d bs) ≡ length bs
length_turns turn d [] = refl
length_turns turn d (b ∷ bs) = ap suc (length_turns turn (suc d) bs)

pub places_access : (s : Scope) (bs : List Begin) (rs : List Range) → Begun s bs rs → access_bounded s (slow_at_places bs) ≡ true
places_access s bs rs h = all_dims_bounded s (named bs) (place_exprs 0 bs) (length (named bs)) refl (named_small s bs rs h) (exprs_have (map (ranges_in s) (named bs)) 0 bs rs (places_at s [] 0 bs rs refl h))

pub zeros_access : (s : Scope) (bs : List Begin) → access_bounded s (at_zeros (Const (pos 0) ∷ zeros bs)) ≡ true
zeros_access s bs = all_dims_bounded s [] (Const (pos 0) ∷ zeros bs) 0 refl refl (λ i. const_has [] (pos 0) refl i && zeros_have [] bs i)

module _ (own : Name → Bool) (name : ℕ → Name) (names : MadeNames own name) (f : ℕ → ℕ) (one_to_one : (a b : ℕ) → f a ≡ f b → a ≡ b) where
  abbrev turn : ℕ → Name
  turn d = name (f d)

  -- the variables of the copy loops
  abbrev pub Turned : Scope → ℕ → List Dimension → Type 0
  Turned s d [] = Unit {0}
  Turned s d (x ∷ ds) = (s (name (f d)) ≡ Some (Variable (turn_interval x))) × Turned s (suc d) ds

  abbrev pub From : ℕ → ℕ → Type 0
  From d i = (e : ℕ) × (d ≤ e) × (i ≡ f e)

  pub turned_along : (P : ℕ → Type 0) → ((e : ℕ) → P (f e) → ⊥) → (s t : Scope) → Changes name P s t → (d : ℕ) (ds : List Dimension) → Turned s d ds → Turned t d ds
  turned_along P misses s t c d [] h = tt
  turned_along P misses s t c d (x ∷ ds) h = (changes_kept name own names P s t (f d) c (misses d) ∙ h.0, turned_along P misses s t c (suc d) ds h.1)

  pub loops_bounded : (d : ℕ) (ds : List Dimension) (s : Scope) (inner : Nest) → Sized ds → ((t : Scope) → Changes name (From d) s t → Turned t d ds → bounded_in inner t ≡ true) → bounded_in (loops turn d ds inner) s ≡ true
  unfolding first_turn last_end
  loops_bounded d [] s inner z more = more s (λ n a. refl) tt
  loops_bounded d (x ∷ ds) s inner z more =
      let v = put s (turn d) (Some (Variable (turn_range (pos 0) (pos x.extent)))) in
      let least = z.0 in
      let most : x.extent ≤ 1048576 = (let a = z.1 in let b = z.2 in omega (arith, a, b)) in
      let range : turn_range (pos 0) (pos x.extent) ≡ turn_interval x = ap (λ g. record { least = pos 0; greatest = g }) (omega (arith, ints, clamps, least)) in
      let here : v (turn d) ≡ Some (Variable (turn_interval x)) = put-same s (turn d) _ (turn d) (same_name-refl (turn d)) ∙ ap (λ r. Some (Variable r)) range in
      let c : Changes name (From d) s v = changes_put name (From d) s (f d) _ (d, omega arith, refl) in
      λ i. ap not (number_inside x.extent most) i
      && (loops_bounded (suc d) ds v inner z.3
      (λ t c' h. more t (changes_then name (From d) s v t c (changes_more name (From (suc d)) (From d) (λ i w. (w.0, (let l = w.1 in omega (arith, l)), w.2)) v t c'))
      (changes_kept name own names (From (suc d)) v t (f d) c' (λ w. let e = one_to_one d w.0 w.2 in let l = w.1 in omega (arith, e, l)) ∙ here, h)) i && true)

  -- ---- their subscripts
  module _ (s : Scope) where
    turns_small : (d k : ℕ) (ds : List Dimension) → Turned s d ds → list_all (is_small_dimension s) (turn_names turn d (begins_from name k ds)) ≡ true
    turns_small d k [] h = refl
    turns_small d k (x ∷ ds) h = λ i. variable_small s (turn d) (turn_interval x) h.0 i && turns_small (suc d) (suc k) ds h.1 i

    pub turns_at : (front back : List Range) (n d k : ℕ) (ds : List Dimension) → length front ≡ n → Turned s d ds → TurnsAt (front ++ (map (ranges_in s) (turn_names turn d (begins_from name k ds)) ++ back)) n ds
    turns_at front back n d k [] l h = tt
    turns_at front back n d k (x ∷ ds) l h =
        let r = ranges_in s (turn d) in
        let rest = map (ranges_in s) (turn_names turn (suc d) (begins_from name (suc k) ds)) ++ back in (
          at_end front r rest n l ∙ variable_range s (turn d) (turn_interval x) h.0,
          subst (λ L. TurnsAt L (suc n) ds) (append_assoc front (r ∷ []) rest) (turns_at (front ++ r ∷ []) back (suc n) (suc d) (suc k) ds (one_more front r n l) h.1),
        )

    no_back : (xs : List Range) → xs ++ [] ≡ xs
    no_back [] = refl
    no_back (x ∷ xs) = ap (λ l. x ∷ l) (no_back xs)

    pub map_append : (g : Name → Range) (xs ys : List Name) → map g (xs ++ ys) ≡ map g xs ++ map g ys
    map_append g [] ys = refl
    map_append g (x ∷ xs) ys = ap (λ l. g x ∷ l) (map_append g xs ys)

    pub fast_bounded : (ds : List Dimension) → Sized ds → Turned s 0 ds → access_bounded s (fast_at_turns turn (begins_from name 0 ds)) ≡ true
    fast_bounded ds z h =
        let bs = begins_from name 0 ds in
        let ops = turn_names turn 0 bs in
        all_dims_bounded s ops (Const (pos 0) ∷ turn_dims 0 bs) (length bs) (length_turns turn 0 bs) (turns_small 0 0 ds h)
        (turns_have_ (map (ranges_in s) ops) 0 bs ds (length_begins name 0 ds) z (subst (λ L. TurnsAt L 0 ds) (no_back (map (ranges_in s) ops)) (turns_at [] [] 0 0 0 ds refl h)))

    pub slow_bounded : (ds : List Dimension) (rs : List Range) → Sized ds → CopiesFit Copies ds rs → Turned s 0 ds → Begun s (begins_from name 0 ds) rs → access_bounded s (slow_at_turns turn (begins_from name 0 ds)) ≡ true
    slow_bounded ds rs z fit h begun =
        let bs = begins_from name 0 ds in
        let turns = turn_names turn 0 bs in
        let ops = turns ++ named bs in
        let long : length ops ≡ length bs + length (named bs) = length-append turns (named bs) ∙ ap (λ n. n + length (named bs)) (length_turns turn 0 bs) in
        let L = map (ranges_in s) turns ++ map (ranges_in s) (named bs) in
        let has : list_all (has_interval L []) (turn_places 0 (length bs) bs) ≡ true =
        turn_places_have L 0 (length bs) bs ds rs (length_begins name 0 ds) z fit (turns_at [] (map (ranges_in s) (named bs)) 0 0 0 ds refl h)
        (places_at s (map (ranges_in s) turns) (length bs) bs rs (length_map (ranges_in s) turns ∙ length_turns turn 0 bs) begun) in
        all_dims_bounded s ops (turn_places 0 (length bs) bs) (length bs + length (named bs)) long (all_both (is_small_dimension s) turns (named bs) (turns_small 0 0 ds h) (named_small s bs rs begun))
        (subst (λ L. list_all (has_interval L []) (turn_places 0 (length bs) bs) ≡ true) (sym (map_append (ranges_in s) turns (named bs))) has)
