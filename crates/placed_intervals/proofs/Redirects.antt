-- The redirected accesses keep to the rule on intervals.
use Rattle.std.proofs.Common.{◌≡◌, ℕ, zero, suc, ◌+◌, ◌*◌, ◌≤◌, ℤ, pos, ◌-ℤ◌, Bool, true, false, cond, List, [], ◌∷◌, ◌++◌, length, get_or, map, take, drop, refl, sym, ap, ◌∙◌, subst, arith}
use Rattle.std.specs.Prelude.{◌&&◌, Option, Some, None, is_some}
use Rattle.std.specs.Ordering.{int_eq}
use Rattle.std.specs.List.{list_all}
use Rattle.std.proofs.lemmas.Bool.{and_parts, eqb-true}
use Rattle.affine_expr.specs.declared.expr.Expr.{Expr, Dim, Const, Sub, fold-roll-Expr, ind-Expr, map-Expr, roll-Expr}
use Rattle.affine_expr.specs.declared.expr.Expr.TheOpen.{Expr-F}
use Rattle.affine_expr.specs.Bounded.{bounded}
use Rattle.affine_expr.specs.Pure.{is_outside, has_leaves_below}
use Rattle.affine_expr.specs.Spread.{Range, Spread, only, range_of, spread, spread_step}
use Rattle.affine_ast.specs.declared.name.Name.{Name}
use Rattle.affine_ast.specs.declared.types.Access.{Access}
use Rattle.affine_ast.specs.declared.types.MemrefType.{MemrefType}
use Rattle.affine_ast.specs.declared.types.Scalar.TheVariants.{Int, Index}
use Rattle.affine_ast.specs.Names.{same_name, put}
use Rattle.affine_ast.proofs.Names.{put-other}
use Rattle.affine_ast.specs.Nest.{Plain, Nest, Nothing, Loop, Branch, Does, Value, Load, Store, RawLoad, RawStore, Constant, Binary, Cast, Alloc, Dealloc, Start, Wait, Return}
use Rattle.affine_ast.specs.Rules.{is_small_dimension, has_interval, access_bounded, maps_bounded, map_fits}
use Rattle.affine_ast.specs.Scope.{Binding, Data, Scope, ranges_in}
use Rattle.placement_texts.specs.Mapped.{mapped}
use Rattle.placement_texts.specs.Own.{OwnNames, OwnPlain, OwnNest, MadeNames}
use Rattle.placement_texts.specs.Template.{Placement, Dimension, begin, number_step, number_of, less_by, less, Begin, Fixed, Named, begins, begins_from, named, less_places, in_fast, redirect, fast_name, fast_type}
use Rattle.placement_texts.specs.Tests.{behind_scope, loop_scope}
use Rattle.placement_texts.proofs.Follows.{apart_own}
use Rattle.placement_texts.proofs.ScopedRedirect.{all_both, in_fast_dims, in_fast_syms}
use Rattle.plan_laws.specs.Limits.{bounded_in}
use Rattle.placed_intervals.specs.Fits.{Inside, LessFit, SubscriptsFit, AccessFits, Under}
use Rattle.placed_intervals.proofs.Ranges.{dim_is, const_is, sub_is, spread_is, stays}
use Rattle.placed_intervals.proofs.Scopes.{Agree, take_own, smalls_same, ranges_same, set_same, bound_same, maps_same, loop_agrees, behind_agrees}
use Rattle.placed_intervals.proofs.Front.{BeginIs, Begun, interval_some}
use Rattle.placed_intervals.proofs.Copies.{PlacesAt, places_at, named_small}

pub some_interval : (ds ss : List Range) (e : Expr) → has_interval ds ss e ≡ true → (a : Spread) × (bounded ds ss e ≡ Some a)
unfolding has_interval
some_interval ds ss e h = by (bounded ds ss e) refl h
  where
    by : (o : Option Spread) → bounded ds ss e ≡ o → is_some o ≡ true → (a : Spread) × (bounded ds ss e ≡ Some a)
    by (Some a) is k = (a, is)
    by None is k = absurd (let z : ⊥ = cc in z)

-- an expression that is one number has its interval
module _ (ds ss : List Range) where
  abbrev IsNumber : Expr → Type 0
  IsNumber e = (k : ℤ) → number_of e ≡ Some k → range_of ds ss e ≡ only k

  number_layer : (y : Expr-F ((e : Expr) × IsNumber e)) → IsNumber (roll-Expr (map-Expr ((e : Expr) × IsNumber e) Expr (λ e. e.0) y))
  unfolding number_of spread
  number_layer (Expr-F.Const z) k h = let e : Some z ≡ Some k = sym (fold-roll-Expr (Option ℤ) number_step (Expr-F.Const z)) ∙ h in let same : z ≡ k = cc in ap (λ (x : Spread). x.range) (fold-roll-Expr Spread (spread_step ds ss) (Expr-F.Const z)) ∙ ap only same
  number_layer (Expr-F.Dim n) k h = absurd (let e : None ≡ Some k = sym (fold-roll-Expr (Option ℤ) number_step (Expr-F.Dim n)) ∙ h in let z : ⊥ = cc in z)
  number_layer (Expr-F.Sym n) k h = absurd (let e : None ≡ Some k = sym (fold-roll-Expr (Option ℤ) number_step (Expr-F.Sym n)) ∙ h in let z : ⊥ = cc in z)
  number_layer (Expr-F.Neg a) k h = absurd (let e : None ≡ Some k = sym (fold-roll-Expr (Option ℤ) number_step (Expr-F.Neg a.0)) ∙ h in let z : ⊥ = cc in z)
  number_layer (Expr-F.Add a b) k h = absurd (let e : None ≡ Some k = sym (fold-roll-Expr (Option ℤ) number_step (Expr-F.Add a.0 b.0)) ∙ h in let z : ⊥ = cc in z)
  number_layer (Expr-F.Sub a b) k h = absurd (let e : None ≡ Some k = sym (fold-roll-Expr (Option ℤ) number_step (Expr-F.Sub a.0 b.0)) ∙ h in let z : ⊥ = cc in z)
  number_layer (Expr-F.Mul a b) k h = absurd (let e : None ≡ Some k = sym (fold-roll-Expr (Option ℤ) number_step (Expr-F.Mul a.0 b.0)) ∙ h in let z : ⊥ = cc in z)
  number_layer (Expr-F.FloorDiv a b) k h = absurd (let e : None ≡ Some k = sym (fold-roll-Expr (Option ℤ) number_step (Expr-F.FloorDiv a.0 b.0)) ∙ h in let z : ⊥ = cc in z)
  number_layer (Expr-F.CeilDiv a b) k h = absurd (let e : None ≡ Some k = sym (fold-roll-Expr (Option ℤ) number_step (Expr-F.CeilDiv a.0 b.0)) ∙ h in let z : ⊥ = cc in z)
  number_layer (Expr-F.Mod a b) k h = absurd (let e : None ≡ Some k = sym (fold-roll-Expr (Option ℤ) number_step (Expr-F.Mod a.0 b.0)) ∙ h in let z : ⊥ = cc in z)

  pub number_range : (e : Expr) → IsNumber e
  number_range = ind-Expr IsNumber (λ x y is. subst (λ z. IsNumber (roll-Expr z)) is (number_layer y))

-- ---- one subscript less a place
module _ (A X S : List Range) (syms : ℕ) where
  abbrev pub L : List Range
  L = A ++ X

  module _ (e : Expr) (own_interval : has_interval A S e ≡ true) (leaves : has_leaves_below (length A) syms e ≡ true) where
    -- its interval among more dimensions
    abbrev pub a : Spread
    a = (some_interval A S e own_interval).0

    pub still : bounded L S e ≡ Some a
    still = stays A X S syms e leaves ∙ (some_interval A S e own_interval).1

    pub ranged : range_of A S e ≡ a.range
    ranged = ap (λ (x : Spread). x.range) (spread_is A S e a (some_interval A S e own_interval).1).0

    pub still_has : has_interval L S e ≡ true
    still_has = interval_some L S e a still

    fixed_has : (z : ℤ) → is_outside z ≡ false → Inside (record { least = (range_of A S e).least -ℤ z; greatest = (range_of A S e).greatest -ℤ z }) → has_interval L S (less e z) ≡ true
    fixed_has z small fit = by (number_of e) refl
      where
        inner : (b : Bool) → has_interval L S (cond b e (Sub e (Const z))) ≡ true
        inner true = still_has
        inner false = interval_some L S (Sub e (Const z)) _ (sub_is L S e (Const z) a _ still (const_is L S z small) (subst (λ (r : Range). Inside (record { least = r.least -ℤ z; greatest = r.greatest -ℤ z })) ranged fit))

        by : (o : Option ℤ) → number_of e ≡ o → has_interval L S (less_by o e z) ≡ true
        by (Some k) is = interval_some L S (Const (k -ℤ z)) _ (const_is L S (k -ℤ z) (ap (λ (r : Range). is_outside (r.least -ℤ z)) (sym (number_range A S e k is)) ∙ fit.0))
        by None is = inner (int_eq z (pos 0))

    named_has : (k : ℕ) (r : Range) → get_or L k (only (pos 0)) ≡ r → Inside r → Inside (record { least = (range_of A S e).least -ℤ r.greatest; greatest = (range_of A S e).greatest -ℤ r.least }) → has_interval L S (Sub e (Dim k)) ≡ true
    named_has k r at inside fit =
        interval_some L S (Sub e (Dim k)) _
        (sub_is L S e (Dim k) a _ still (dim_is L S k r at inside) (subst (λ (x : Range). Inside (record { least = x.least -ℤ r.greatest; greatest = x.greatest -ℤ r.least })) ranged fit))

  all_still : (es : List Expr) → list_all (has_interval A S) es ≡ true → list_all (has_leaves_below (length A) syms) es ≡ true → list_all (has_interval L S) es ≡ true
  all_still [] h k = refl
  all_still (e ∷ es) h k =
      let p = and_parts (has_interval A S e) _ h in
      let q = and_parts (has_leaves_below (length A) syms e) _ k in
      λ i. still_has e p.0 q.0 i && all_still es p.1 q.1 i

  pub less_have : (k : ℕ) (es : List Expr) (bs : List Begin) (rs : List Range) → list_all (has_interval A S) es ≡ true → list_all (has_leaves_below (length A) syms) es ≡ true → LessFit (map (range_of A S) es) rs → PlacesAt L k bs rs
      → list_all (has_interval L S) (less_places k es bs) ≡ true
  less_have k [] bs rs h l f p = refl
  less_have k (e ∷ es) [] rs h l f p = all_still (e ∷ es) h l
  less_have k (e ∷ es) (b ∷ bs) [] h l f p = absurd p
  less_have k (e ∷ es) (Fixed z ∷ bs) (r ∷ rs) h l f p =
      let i1 = and_parts (has_interval A S e) _ h in
      let l1 = and_parts (has_leaves_below (length A) syms e) _ l in
      let small = subst (λ (x : Range). is_outside x.least ≡ false) p.0 p.1.0 in
      let fit = subst (λ (x : Range). Inside (record { least = (range_of A S e).least -ℤ x.greatest; greatest = (range_of A S e).greatest -ℤ x.least })) p.0 f.0 in
      λ i. fixed_has e i1.0 l1.0 z small fit i && less_have k es bs rs i1.1 l1.1 f.1 p.2 i
  less_have k (e ∷ es) (Named n ∷ bs) (r ∷ rs) h l f p =
      let i1 = and_parts (has_interval A S e) _ h in
      let l1 = and_parts (has_leaves_below (length A) syms e) _ l in
      λ i. named_has e i1.0 l1.0 k r p.0 p.1 f.0 i && less_have (suc k) es bs rs i1.1 l1.1 f.1 p.2 i

-- ---- an access
pub map_take : (f : Name → Range) (n : ℕ) (xs : List Name) → map f (take n xs) ≡ take n (map f xs)
map_take f zero xs = refl
map_take f (suc n) [] = refl
map_take f (suc n) (x ∷ xs) = ap (λ l. f x ∷ l) (map_take f n xs)

pub map_drop : (f : Name → Range) (n : ℕ) (xs : List Name) → map f (drop n xs) ≡ drop n (map f xs)
map_drop f zero xs = refl
map_drop f (suc n) [] = refl
map_drop f (suc n) (x ∷ xs) = map_drop f n xs

pub map_append : (g : Name → Range) (xs ys : List Name) → map g (xs ++ ys) ≡ map g xs ++ map g ys
map_append g [] ys = refl
map_append g (x ∷ xs) ys = ap (λ l. g x ∷ l) (map_append g xs ys)

pub length_taken : (f : Name → Range) (n : ℕ) (xs : List Name) → n ≤ length xs → length (take n (map f xs)) ≡ n
length_taken f zero xs h = refl
length_taken f (suc n) [] h = absurd (omega (arith, h))
length_taken f (suc n) (x ∷ xs) h = let e = length_taken f n xs (omega (arith, h)) in omega (arith, e)

module _ (own : Name → Bool) (p : Placement) (names : MadeNames own p.name) (rs : List Range) where
  in_fast_bounded : (s t : Scope) (at : Access) (ty : MemrefType) → Agree own s t → OwnNames own at.operands → access_bounded s at ≡ true → SubscriptsFit p rs s at ty → Begun t (begins p) rs → access_bounded t (in_fast (begins p) at) ≡ true
  unfolding access_bounded map_fits
  in_fast_bounded s t at ty same o h fit begun =
      let bs = begins p in
      let D = at.map.dims in
      let ops = at.operands in
      let f = ranges_in t in
      let q = and_parts _ _ fit.fits in
      let count : length ops ≡ D + at.map.syms = eqb-true (length ops) (D + at.map.syms) q.0 in
      let long : D ≤ length ops = omega (arith, count) in
      let w = and_parts _ _ h in
      let A = take D (map f ops) in
      let S = drop D (map f ops) in
      let X = map f (named bs) in
      let width : length A ≡ D = length_taken f D ops long in
      let again : map (ranges_in s) ops ≡ map f ops = sym (ranges_same own s t same ops o) in
      let smalls : list_all (is_small_dimension t) (take D ops ++ named bs) ≡ true =
      all_both (is_small_dimension t) (take D ops) (named bs) (smalls_same own s t same (take D ops) (take_own own D ops o) ∙ w.0) (named_small t bs rs begun) in
      let has : list_all (has_interval A S) at.map.results ≡ true = (λ i. list_all (has_interval (take D (sym again i)) (drop D (sym again i))) at.map.results) ∙ w.1 in
      let leaves : list_all (has_leaves_below (length A) at.map.syms) at.map.results ≡ true = ap (λ n. list_all (has_leaves_below n at.map.syms) at.map.results) width ∙ q.1 in
      let less : LessFit (map (range_of A S) at.map.results) rs = subst (λ l. LessFit (map (range_of (take D l) (drop D l)) at.map.results) rs) again fit.less in
      let all : list_all (has_interval (A ++ X) S) (Const (pos 0) ∷ less_places D at.map.results bs) ≡ true =
      λ i. interval_some (A ++ X) S (Const (pos 0)) _ (const_is (A ++ X) S (pos 0) refl) i && less_have A X S at.map.syms D at.map.results bs rs has leaves less (places_at t A D bs rs width begun) i in
      let dims : take (D + length (named bs)) (map f (in_fast bs at).operands) ≡ A ++ X =
      sym (map_take f (D + length (named bs)) (in_fast bs at).operands) ∙ ap (map f) (in_fast_dims bs at long) ∙ map_append f (take D ops) (named bs) ∙ ap (λ l. l ++ X) (map_take f D ops) in
      let symbols : drop (D + length (named bs)) (map f (in_fast bs at).operands) ≡ S = sym (map_drop f (D + length (named bs)) (in_fast bs at).operands) ∙ ap (map f) (in_fast_syms bs at long) ∙ map_drop f D ops in
      λ i. (ap (list_all (is_small_dimension t)) (in_fast_dims bs at long) ∙ smalls) i
      && ((λ j. list_all (has_interval (dims j) (symbols j)) (Const (pos 0) ∷ less_places D at.map.results bs)) ∙ all) i

  -- ---- names of the text aren't made
  pub made_put : (t : Scope) (r : Name) (b : Binding) → own r ≡ true → (i : ℕ) → put t r (Some b) (p.name i) ≡ t (p.name i)
  made_put t r b o i = put-other t r (Some b) (p.name i) (apart_own own r (p.name i) o (names.made i))

  pub made_behind : (q : Plain) (t : Scope) → OwnPlain own q → (i : ℕ) → behind_scope q t (p.name i) ≡ t (p.name i)
  made_behind (Value r pick at) t o = made_put t r _ o.0
  made_behind (Load r m at ty) t o = made_put t r _ o.0
  made_behind (Store x m at ty) t o = λ i. refl
  made_behind (RawLoad r m at ty) t o = made_put t r _ o.0
  made_behind (RawStore x m at ty) t o = λ i. refl
  made_behind (Constant r z (Int element)) t o = made_put t r _ o
  made_behind (Constant r z Index) t o = made_put t r _ o
  made_behind (Binary r op x y ty) t o = made_put t r _ o.0
  made_behind (Cast r k x from to) t o = made_put t r _ o.0
  made_behind (Alloc r ty) t o = made_put t r _ o.0
  made_behind (Dealloc m ty) t o = λ i. refl
  made_behind (Start x x_at y y_at z z_at n stride types) t o = λ i. refl
  made_behind (Wait z at n ty) t o = λ i. refl
  made_behind Return t o = λ i. refl

  begin_made : (b : Begin) (r : Range) (s t : Scope) → ((n : Name) → b ≡ Named n → t n ≡ s n) → BeginIs s b r → BeginIs t b r
  begin_made (Fixed z) r s t e h = h
  begin_made (Named n) r s t e h = e n refl ∙ h

  pub begins_made : (k : ℕ) (ds : List Dimension) (rs : List Range) (s t : Scope) → ((i : ℕ) → t (p.name i) ≡ s (p.name i)) → Begun s (begins_from p.name k ds) rs → Begun t (begins_from p.name k ds) rs
  begins_made k [] [] s t e h = tt
  begins_made k [] (r ∷ rs) s t e h = absurd h
  begins_made k (d ∷ ds) [] s t e h = absurd h
  begins_made k (d ∷ ds) (r ∷ rs) s t e h = (one d.terms h.0, h.1, begins_made (suc k) ds rs s t e h.2)
    where
      one : (ts : List (Name × ℤ)) → BeginIs s (begin p.name k d ts) r → BeginIs t (begin p.name k d ts) r
      one [] h = h
      one (x ∷ ts) h = e (7 + 4 * k) ∙ h

  -- ---- what is in scope behind a redirected statement
  element_same : (r m : Name) (at : Access) (ty : MemrefType) (t : Scope) → ty.element ≡ p.element → behind_scope (Load r (fast_name p.name) (in_fast (begins p) at) (fast_type p)) t ≡ behind_scope (Load r m at ty) t
  element_same r m at ty t e = ap (λ x. put t r (Some (Data (Int x)))) (sym e)

  pub behind_redirected : (q : Plain) (s t : Scope) → AccessFits p rs q s → behind_scope (redirect p q) t ≡ behind_scope q t
  behind_redirected (Load r m at ty) s t f = by (same_name p.memref m) f
    where
      by : (b : Bool) → (b ≡ true → SubscriptsFit p rs s at ty) → behind_scope (cond b (Load r (fast_name p.name) (in_fast (begins p) at) (fast_type p)) (Load r m at ty)) t ≡ behind_scope (Load r m at ty) t
      by true f = element_same r m at ty t (f refl).element
      by false f = refl
  behind_redirected (Store x m at ty) s t f = by (same_name p.memref m)
    where
      by : (b : Bool) → behind_scope (cond b (Store x (fast_name p.name) (in_fast (begins p) at) (fast_type p)) (Store x m at ty)) t ≡ behind_scope (Store x m at ty) t
      by true = refl
      by false = refl
  behind_redirected (Value r pick at) s t f = refl
  behind_redirected (RawLoad r m at ty) s t f = refl
  behind_redirected (RawStore x m at ty) s t f = refl
  behind_redirected (Constant r z ty) s t f = refl
  behind_redirected (Binary r op x y ty) s t f = refl
  behind_redirected (Cast r k x from to) s t f = refl
  behind_redirected (Alloc r ty) s t f = refl
  behind_redirected (Dealloc m ty) s t f = refl
  behind_redirected (Start x x_at y y_at z z_at n stride types) s t f = refl
  behind_redirected (Wait z at n ty) s t f = refl
  behind_redirected Return s t f = refl

  -- ---- statements
  plain_bounded : (q : Plain) (s t : Scope) → Agree own s t → OwnPlain own q → maps_bounded s q ≡ true → AccessFits p rs q s → Begun t (begins p) rs → maps_bounded t (redirect p q) ≡ true
  plain_bounded (Load r m at ty) s t same o h f begun = by (same_name p.memref m) f
    where
      by : (b : Bool) → (b ≡ true → SubscriptsFit p rs s at ty) → maps_bounded t (cond b (Load r (fast_name p.name) (in_fast (begins p) at) (fast_type p)) (Load r m at ty)) ≡ true
      by true f = in_fast_bounded s t at ty same o.1.1 h (f refl) begun
      by false f = maps_same own s t same (Load r m at ty) o ∙ h
  plain_bounded (Store x m at ty) s t same o h f begun = by (same_name p.memref m) f
    where
      by : (b : Bool) → (b ≡ true → SubscriptsFit p rs s at ty) → maps_bounded t (cond b (Store x (fast_name p.name) (in_fast (begins p) at) (fast_type p)) (Store x m at ty)) ≡ true
      by true f = in_fast_bounded s t at ty same o.1.1 h (f refl) begun
      by false f = maps_same own s t same (Store x m at ty) o ∙ h
  plain_bounded (Value r pick at) s t same o h f begun = maps_same own s t same (Value r pick at) o ∙ h
  plain_bounded (RawLoad r m at ty) s t same o h f begun = refl
  plain_bounded (RawStore x m at ty) s t same o h f begun = refl
  plain_bounded (Constant r z ty) s t same o h f begun = refl
  plain_bounded (Binary r op x y ty) s t same o h f begun = refl
  plain_bounded (Cast r k x from to) s t same o h f begun = refl
  plain_bounded (Alloc r ty) s t same o h f begun = refl
  plain_bounded (Dealloc m ty) s t same o h f begun = refl
  plain_bounded (Start x x_at y y_at z z_at n stride types) s t same o h f begun = maps_same own s t same (Start x x_at y y_at z z_at n stride types) o ∙ h
  plain_bounded (Wait z at n ty) s t same o h f begun = maps_same own s t same (Wait z at n ty) o ∙ h
  plain_bounded Return s t same o h f begun = refl

  pub body_bounded : (n : Nest) (s t : Scope) → Agree own s t → OwnNest own n → bounded_in n s ≡ true → Under (AccessFits p rs) n s → Begun t (begins p) rs → bounded_in (mapped (redirect p) n) t ≡ true
  body_bounded Nothing s t same o h f begun = refl
  body_bounded (Loop line v l u step body rest) s t same o h f begun =
      let w = and_parts _ _ h in
      let x = and_parts (bounded_in body (loop_scope v l u s)) (bounded_in rest s) w.1 in
      λ i. ((λ j. bound_same own s t same l o.1 j && bound_same own s t same u o.2 j) ∙ w.0) i
      && (body_bounded body (loop_scope v l u s) (loop_scope v l u t) (loop_agrees own s t same v l u o.1 o.2) o.3 x.0 f.0 (begins_made 0 p.dims rs t (loop_scope v l u t) (made_put t v _ o.0) begun) i
      && body_bounded rest s t same o.4 x.1 f.1 begun i)
  body_bounded (Branch line set ns first has other rest) s t same o h f begun =
      let w = and_parts _ _ h in
      let x = and_parts (bounded_in first s) _ w.1 in
      let y = and_parts (bounded_in other s) (bounded_in rest s) x.1 in
      λ i. (set_same own s t same set ns o.0 ∙ w.0) i && (body_bounded first s t same o.1 x.0 f.0 begun i && (body_bounded other s t same o.2 y.0 f.1 begun i && body_bounded rest s t same o.3 y.1 f.2 begun i))
  body_bounded (Does line q rest) s t same o h f begun =
      let w = and_parts (maps_bounded s q) (bounded_in rest (behind_scope q s)) h in
      let t' = behind_scope q t in
      λ i. plain_bounded q s t same o.0 w.0 f.0 begun i
      && (ap (bounded_in (mapped (redirect p) rest)) (behind_redirected q s t f.0)
      ∙ body_bounded rest (behind_scope q s) t' (behind_agrees own s t same q o.0) o.1 w.1 f.1 (begins_made 0 p.dims rs t t' (made_behind q t o.0) begun)) i
