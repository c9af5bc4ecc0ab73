-- What the rule on intervals says of the template's expressions, where it holds of the text that has them.
use Rattle.std.proofs.Common.{◌≡◌, ℕ, suc, ◌+◌, ◌≤◌, ℤ, pos, neg_ℤ, ◌+ℤ◌, ◌-ℤ◌, Bool, true, false, cond, List, [], ◌∷◌, ◌++◌, length, get_or, map, take, drop, refl, sym, ap, ◌∙◌, subst, arith}
use Rattle.std.specs.Prelude.{Option, Some, None, int_lt}
use Rattle.std.specs.Ordering.{int_eq}
use Rattle.std.specs.List.{list_all}
use Rattle.std.proofs.lemmas.Int.{ints}
use Rattle.std.proofs.lemmas.Bool.{and_parts, eqb-true}
use Rattle.std.proofs.lemmas.Bool.Decides.{Decides-int_eq}
use Rattle.std.proofs.lemmas.List.{append_assoc}
use Rattle.affine_expr.specs.declared.expr.Expr.{Expr, Dim, Const, Add, Sub}
use Rattle.affine_expr.specs.Bounded.{bounded}
use Rattle.affine_expr.specs.Pure.{is_outside, has_leaves_below}
use Rattle.affine_expr.specs.Spread.{Range, Spread, only, range_of}
use Rattle.affine_ast.specs.declared.name.Name.{Name}
use Rattle.affine_ast.specs.declared.types.Access.{Access}
use Rattle.affine_ast.specs.Intervals.{ranges_at}
use Rattle.affine_ast.specs.Rules.{is_small_dimension, has_interval, access_bounded, map_fits}
use Rattle.affine_ast.specs.Scope.{Scope, ranges_in}
use Rattle.placement_texts.specs.Own.{OwnNames}
use Rattle.placement_texts.specs.Template.{Dimension, number_of, less_by, less, plus, Copies, Begin, Fixed, Named, named, less_places, in_fast, turn_places, place_exprs}
use Rattle.placement_texts.proofs.PlaceRun.{take_whole, drop_whole}
use Rattle.placement_texts.proofs.ScopedRedirect.{in_fast_dims, in_fast_syms}
use Rattle.placed_intervals.specs.Fits.{Inside, CopiesFit, LessFit, Sized}
use Rattle.placed_intervals.proofs.Ranges.{const_of, dim_of, add_of, sub_of, spread_is}
use Rattle.placed_intervals.proofs.Scopes.{Agree, ranges_same}
use Rattle.placed_intervals.proofs.Front.{BeginIs, variable_range}
use Rattle.placed_intervals.proofs.Copies.{opposite_inside, turn_interval, turn_inside, TurnsAt, at_end, one_more, length_map}
use Rattle.placed_intervals.proofs.Redirects.{some_interval, number_range, still, ranged, map_take, map_drop, map_append, length_taken}

-- each place is a number, or what a value says
abbrev pub BeginsAre : Scope → List Begin → List Range → Type 0
BeginsAre s [] [] = Unit {0}
BeginsAre s (b ∷ bs) (r ∷ rs) = BeginIs s b r × BeginsAre s bs rs
BeginsAre s [] (r ∷ rs) = ⊥
BeginsAre s (b ∷ bs) [] = ⊥

-- and those that are numbers are within the limits
abbrev pub NumbersInside : List Begin → List Range → Type 0
NumbersInside (Fixed z ∷ bs) (r ∷ rs) = Inside r × NumbersInside bs rs
NumbersInside (Named n ∷ bs) (r ∷ rs) = NumbersInside bs rs
NumbersInside bs rs = Unit {0}

abbrev pub StandAt : List Range → ℕ → List Begin → List Range → Type 0
StandAt L k [] [] = Unit {0}
StandAt L k (Fixed z ∷ bs) (r ∷ rs) = (r ≡ only z) × StandAt L k bs rs
StandAt L k (Named n ∷ bs) (r ∷ rs) = (get_or L k (only (pos 0)) ≡ r) × StandAt L (suc k) bs rs
StandAt L k [] (r ∷ rs) = ⊥
StandAt L k (b ∷ bs) [] = ⊥

pub stand_at : (s : Scope) (front : List Range) (k : ℕ) (bs : List Begin) (rs : List Range) → length front ≡ k → BeginsAre s bs rs → StandAt (front ++ map (ranges_in s) (named bs)) k bs rs
stand_at s front k [] [] l h = tt
stand_at s front k [] (r ∷ rs) l h = absurd h
stand_at s front k (b ∷ bs) [] l h = absurd h
stand_at s front k (Fixed z ∷ bs) (r ∷ rs) l h = (h.0, stand_at s front k bs rs l h.1)
stand_at s front k (Named n ∷ bs) (r ∷ rs) l h = (
  at_end front (ranges_in s n) (map (ranges_in s) (named bs)) k l ∙ variable_range s n r h.0,
  subst (λ L. StandAt L (suc k) bs rs) (append_assoc front (ranges_in s n ∷ []) (map (ranges_in s) (named bs))) (stand_at s (front ++ ranges_in s n ∷ []) (suc k) bs rs (one_more front (ranges_in s n) k l) h.1),
)

zero_test : (z : ℤ) → int_eq z (pos 0) ≡ true → z ≡ pos 0
zero_test z h = (Decides-int_eq z (pos 0)).0 h

back_twice : (z : ℤ) → neg_ℤ (neg_ℤ z) ≡ z
back_twice z = omega (arith, ints)

module _ (L : List Range) where
  dim_range : (k : ℕ) (a : Spread) (r : Range) → get_or L k (only (pos 0)) ≡ r → bounded L [] (Dim k) ≡ Some a → a.range ≡ r
  dim_range k a r e h = (dim_of L [] k a h).0 ∙ e

  -- ---- `turn + place`
  plus_gives : (d : ℕ) (x : Dimension) (z : ℤ) → Inside (turn_interval x) → get_or L d (only (pos 0)) ≡ turn_interval x → has_interval L [] (plus (Dim d) z) ≡ true → Inside (only z) × Inside (record { least = z; greatest = z +ℤ (pos x.extent -ℤ pos 1) })
  plus_gives d x z inside e h = by (int_eq z (pos 0)) (int_lt z (pos 0)) refl h
    where
      up : (a b : ℤ) → a ≡ z → b ≡ z +ℤ (pos x.extent -ℤ pos 1) → Inside (record { least = a; greatest = b }) → Inside (record { least = z; greatest = z +ℤ (pos x.extent -ℤ pos 1) })
      up a b p q k = (ap is_outside (sym p) ∙ k.0, ap is_outside (sym q) ∙ k.1)

      by : (a b : Bool) → int_eq z (pos 0) ≡ a → has_interval L [] (cond a (Dim d) (cond b (Sub (Dim d) (Const (neg_ℤ z))) (Add (Dim d) (Const z)))) ≡ true → Inside (only z) × Inside (record { least = z; greatest = z +ℤ (pos x.extent -ℤ pos 1) })
      by true b t k =
          let is = zero_test z t in
          ((ap is_outside is ∙ refl, ap is_outside is ∙ refl), up (pos 0) (pos x.extent -ℤ pos 1) (sym is) (omega (arith, ints, is)) inside)
      by false true t k =
          let w = some_interval L [] (Sub (Dim d) (Const (neg_ℤ z))) k in
          let p = sub_of L [] (Dim d) (Const (neg_ℤ z)) w.0 w.1 in
          let c = const_of L [] (neg_ℤ z) p.second p.second_is in
          let turn = dim_range d p.first (turn_interval x) e p.first_is in
          let small = ap is_outside (sym (back_twice z)) ∙ opposite_inside (neg_ℤ z) c.1 in
          let in_ = subst (λ (y : Range). Inside (record { least = y.least -ℤ p.second.range.greatest; greatest = y.greatest -ℤ p.second.range.least })) turn p.inside in
          let both = subst (λ (y : Range). Inside (record { least = pos 0 -ℤ y.greatest; greatest = (pos x.extent -ℤ pos 1) -ℤ y.least })) c.0 in_ in
          ((small, small), up (pos 0 -ℤ neg_ℤ z) ((pos x.extent -ℤ pos 1) -ℤ neg_ℤ z) (omega (arith, ints)) (omega (arith, ints)) both)
      by false false t k =
          let w = some_interval L [] (Add (Dim d) (Const z)) k in
          let p = add_of L [] (Dim d) (Const z) w.0 w.1 in
          let c = const_of L [] z p.second p.second_is in
          let turn = dim_range d p.first (turn_interval x) e p.first_is in
          let in_ = subst (λ (y : Range). Inside (record { least = y.least +ℤ p.second.range.least; greatest = y.greatest +ℤ p.second.range.greatest })) turn p.inside in
          let both = subst (λ (y : Range). Inside (record { least = pos 0 +ℤ y.least; greatest = (pos x.extent -ℤ pos 1) +ℤ y.greatest })) c.0 in_ in
          ((c.1, c.1), up (pos 0 +ℤ z) ((pos x.extent -ℤ pos 1) +ℤ z) (omega (arith, ints)) (omega (arith, ints)) both)

  pub turn_places_give : (d k : ℕ) (bs : List Begin) (ds : List Dimension) (rs : List Range) → length bs ≡ length ds → Sized ds → TurnsAt L d ds → StandAt L k bs rs → list_all (has_interval L []) (turn_places d k bs) ≡ true → CopiesFit Copies ds rs × NumbersInside bs rs
  turn_places_give d k [] [] rs l z t p h = (none rs, tt)
    where
      none : (rs : List Range) → CopiesFit Copies [] rs
      none rs = tt
  turn_places_give d k [] (x ∷ ds) rs l z t p h = absurd (omega (arith, l))
  turn_places_give d k (b ∷ bs) [] rs l z t p h = absurd (omega (arith, l))
  turn_places_give d k (b ∷ bs) (x ∷ ds) [] l z t p h = absurd p
  turn_places_give d k (Fixed c ∷ bs) (x ∷ ds) (r ∷ rs) l z t p h =
      let w = and_parts (has_interval L [] (plus (Dim d) c)) _ h in
      let g = plus_gives d x c (turn_inside x z.0 z.1 z.2) t.0 w.0 in
      let more = turn_places_give (suc d) k bs ds rs (omega (arith, l)) z.3 t.1 p.1 w.1 in
      ((subst (λ (y : Range). Inside (record { least = y.least; greatest = y.greatest +ℤ (pos x.extent -ℤ pos 1) })) (sym p.0) g.1, more.0), (subst Inside (sym p.0) g.0, more.1))
  turn_places_give d k (Named n ∷ bs) (x ∷ ds) (r ∷ rs) l z t p h =
      let w = and_parts (has_interval L [] (Add (Dim d) (Dim k))) _ h in
      let i = some_interval L [] (Add (Dim d) (Dim k)) w.0 in
      let q = add_of L [] (Dim d) (Dim k) i.0 i.1 in
      let turn = dim_range d q.first (turn_interval x) t.0 q.first_is in
      let place = dim_range k q.second r p.0 q.second_is in
      let in_ = subst (λ (y : Range). Inside (record { least = y.least +ℤ q.second.range.least; greatest = y.greatest +ℤ q.second.range.greatest })) turn q.inside in
      let both = subst (λ (y : Range). Inside (record { least = pos 0 +ℤ y.least; greatest = (pos x.extent -ℤ pos 1) +ℤ y.greatest })) place in_ in
      let low : r.least ≡ pos 0 +ℤ r.least = omega (arith, ints) in
      let high : r.greatest +ℤ (pos x.extent -ℤ pos 1) ≡ (pos x.extent -ℤ pos 1) +ℤ r.greatest = omega (arith, ints) in
      let more = turn_places_give (suc d) (suc k) bs ds rs (omega (arith, l)) z.3 t.1 p.1 w.1 in
      (((ap is_outside low ∙ both.0, ap is_outside high ∙ both.1), more.0), more.1)

  pub place_exprs_give : (k : ℕ) (bs : List Begin) (rs : List Range) → StandAt L k bs rs → list_all (has_interval L []) (place_exprs k bs) ≡ true → NumbersInside bs rs
  place_exprs_give k [] [] p h = tt
  place_exprs_give k [] (r ∷ rs) p h = absurd p
  place_exprs_give k (b ∷ bs) [] p h = absurd p
  place_exprs_give k (Fixed z ∷ bs) (r ∷ rs) p h =
      let w = and_parts (has_interval L [] (Const z)) _ h in
      let i = some_interval L [] (Const z) w.0 in
      let c = const_of L [] z i.0 i.1 in
      (subst Inside (sym p.0) (c.1, c.1), place_exprs_give k bs rs p.1 w.1)
  place_exprs_give k (Named n ∷ bs) (r ∷ rs) p h = place_exprs_give (suc k) bs rs p.1 (and_parts (has_interval L [] (Dim k)) _ h).1

-- over operands that are all dimensions
pub all_dims_give : (s : Scope) (ops : List Name) (es : List Expr) (n : ℕ) → length ops ≡ n → access_bounded s (record { map = record { dims = n; syms = 0; results = es }; operands = ops }) ≡ true → list_all (has_interval (map (ranges_in s) ops) []) es ≡ true
unfolding access_bounded
all_dims_give s ops es n l h =
    let long : length (map (ranges_in s) ops) ≡ n = length_map (ranges_in s) ops ∙ l in
    let w = and_parts (list_all (is_small_dimension s) (take n ops)) (list_all (has_interval (take n (map (ranges_in s) ops)) (drop n (map (ranges_in s) ops))) es) h in
    sym (λ j. list_all (has_interval (take_whole (map (ranges_in s) ops) n long j) (drop_whole (map (ranges_in s) ops) n long j)) es) ∙ w.1

-- ---- `e - place`
module _ (A X S : List Range) (syms : ℕ) where
  same_spread : (e : Expr) (x y : Spread) → bounded (A ++ X) S e ≡ Some x → bounded (A ++ X) S e ≡ Some y → x ≡ y
  same_spread e x y p q = let z : Some x ≡ Some y = sym p ∙ q in let is : x ≡ y = cc in is

  module _ (e : Expr) (own_interval : has_interval A S e ≡ true) (leaves : has_leaves_below (length A) syms e ≡ true) where
    abbrev less_than : Range → Range → Range
    less_than x y = record { least = x.least -ℤ y.greatest; greatest = x.greatest -ℤ y.least }

    -- of the expression with a part taken from it
    sub_gives : (f : Expr) (y : Range) → ((b : Spread) → bounded (A ++ X) S f ≡ Some b → b.range ≡ y) → has_interval (A ++ X) S (Sub e f) ≡ true → Inside (less_than (range_of A S e) y)
    sub_gives f y is h =
        let w = some_interval (A ++ X) S (Sub e f) h in
        let p = sub_of (A ++ X) S e f w.0 w.1 in
        let first : p.first.range ≡ range_of A S e = ap (λ (x : Spread). x.range) (same_spread e p.first _ p.first_is (still A X S syms e own_interval leaves)) ∙ sym (ranged A X S syms e own_interval leaves) in
        subst (λ x. Inside (less_than x y)) first (subst (λ z. Inside (less_than p.first.range z)) (is p.second p.second_is) p.inside)

    minus_zero : (x : ℤ) → x ≡ x -ℤ pos 0
    minus_zero x = omega (arith, ints)

    fixed_gives : (z : ℤ) → has_interval (A ++ X) S (less e z) ≡ true → Inside (less_than (range_of A S e) (only z))
    fixed_gives z h = by (number_of e) refl h
      where
        inner : (b : Bool) → int_eq z (pos 0) ≡ b → has_interval (A ++ X) S (cond b e (Sub e (Const z))) ≡ true → Inside (less_than (range_of A S e) (only z))
        inner true t k =
            let is = zero_test z t in
            let i = some_interval A S e own_interval in
            let s = spread_is A S e i.0 i.1 in
            let inside : Inside (range_of A S e) = subst (λ (x : Spread). Inside x.range) (sym s.0) s.1 in
            subst (λ y. Inside (less_than (range_of A S e) (only y))) (sym is) (ap is_outside (sym (minus_zero (range_of A S e).least)) ∙ inside.0, ap is_outside (sym (minus_zero (range_of A S e).greatest)) ∙ inside.1)
        inner false t k = sub_gives (Const z) (only z) (λ b is. (const_of (A ++ X) S z b is).0) k

        by : (o : Option ℤ) → number_of e ≡ o → has_interval (A ++ X) S (less_by o e z) ≡ true → Inside (less_than (range_of A S e) (only z))
        by (Some k) is j =
            let w = some_interval (A ++ X) S (Const (k -ℤ z)) j in
            let c = const_of (A ++ X) S (k -ℤ z) w.0 w.1 in
            subst (λ x. Inside (less_than x (only z))) (sym (number_range A S e k is)) (c.1, c.1)
        by None is j = inner (int_eq z (pos 0)) refl j

  pub less_give : (k : ℕ) (es : List Expr) (bs : List Begin) (rs : List Range) → list_all (has_interval A S) es ≡ true → list_all (has_leaves_below (length A) syms) es ≡ true → StandAt (A ++ X) k bs rs → list_all (has_interval (A ++ X) S) (less_places k es bs) ≡ true
      → LessFit (map (range_of A S) es) rs
  less_give k [] bs rs h l p j = tt
  less_give k (e ∷ es) [] [] h l p j = tt
  less_give k (e ∷ es) [] (r ∷ rs) h l p j = absurd p
  less_give k (e ∷ es) (b ∷ bs) [] h l p j = absurd p
  less_give k (e ∷ es) (Fixed z ∷ bs) (r ∷ rs) h l p j =
      let i1 = and_parts (has_interval A S e) _ h in
      let l1 = and_parts (has_leaves_below (length A) syms e) _ l in
      let w = and_parts (has_interval (A ++ X) S (less e z)) _ j in
      (subst (λ (y : Range). Inside (record { least = (range_of A S e).least -ℤ y.greatest; greatest = (range_of A S e).greatest -ℤ y.least })) (sym p.0) (fixed_gives e i1.0 l1.0 z w.0), less_give k es bs rs i1.1 l1.1 p.1 w.1)
  less_give k (e ∷ es) (Named n ∷ bs) (r ∷ rs) h l p j =
      let i1 = and_parts (has_interval A S e) _ h in
      let l1 = and_parts (has_leaves_below (length A) syms e) _ l in
      let w = and_parts (has_interval (A ++ X) S (Sub e (Dim k))) _ j in
      (sub_gives e i1.0 l1.0 (Dim k) r (λ b is. (dim_of (A ++ X) S k b is).0 ∙ p.0) w.0, less_give (suc k) es bs rs i1.1 l1.1 p.1 w.1)

module _ (own : Name → Bool) where
  pub in_fast_gives : (s t : Scope) (bs : List Begin) (rs : List Range) (at : Access) → Agree own s t → OwnNames own at.operands → map_fits at ≡ true → access_bounded s at ≡ true → BeginsAre t bs rs → access_bounded t (in_fast bs at) ≡ true → LessFit (ranges_at (ranges_in s) at) rs
  unfolding access_bounded map_fits
  in_fast_gives s t bs rs at same o fits h are j =
      let D = at.map.dims in
      let ops = at.operands in
      let f = ranges_in t in
      let q = and_parts _ _ fits in
      let count : length ops ≡ D + at.map.syms = eqb-true (length ops) (D + at.map.syms) q.0 in
      let long : D ≤ length ops = omega (arith, count) in
      let w = and_parts _ _ h in
      let A = take D (map f ops) in
      let S = drop D (map f ops) in
      let X = map f (named bs) in
      let width : length A ≡ D = length_taken f D ops long in
      let again : map (ranges_in s) ops ≡ map f ops = sym (ranges_same own s t same ops o) in
      let has : list_all (has_interval A S) at.map.results ≡ true = (λ i. list_all (has_interval (take D (sym again i)) (drop D (sym again i))) at.map.results) ∙ w.1 in
      let leaves : list_all (has_leaves_below (length A) at.map.syms) at.map.results ≡ true = ap (λ n. list_all (has_leaves_below n at.map.syms) at.map.results) width ∙ q.1 in
      let dims : take (D + length (named bs)) (map f (in_fast bs at).operands) ≡ A ++ X =
      sym (map_take f (D + length (named bs)) (in_fast bs at).operands) ∙ ap (map f) (in_fast_dims bs at long) ∙ map_append f (take D ops) (named bs) ∙ ap (λ l. l ++ X) (map_take f D ops) in
      let symbols : drop (D + length (named bs)) (map f (in_fast bs at).operands) ≡ S = sym (map_drop f (D + length (named bs)) (in_fast bs at).operands) ∙ ap (map f) (in_fast_syms bs at long) ∙ map_drop f D ops in
      let jj = and_parts _ _ j in
      let all : list_all (has_interval (A ++ X) S) (Const (pos 0) ∷ less_places D at.map.results bs) ≡ true =
      (λ i. list_all (has_interval (sym dims i) (sym symbols i)) (Const (pos 0) ∷ less_places D at.map.results bs)) ∙ jj.1 in
      let rest = (and_parts (has_interval (A ++ X) S (Const (pos 0))) _ all).1 in
      subst (λ l. LessFit (map (range_of (take D l) (drop D l)) at.map.results) rs) (sym again) (less_give A X S at.map.syms D at.map.results bs rs has leaves (stand_at t A D bs rs width are) rest)
