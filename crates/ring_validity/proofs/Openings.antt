-- Where the rings of placements stand round a loop, the body begins as that of the single text does.
use Rattle.std.proofs.Common.{◌≡◌, ◌⊎◌, inl, inr, ℕ, zero, suc, ◌+◌, ◌≤◌, ℤ, pos, ◌<ℤ◌, ◌*ℤ◌, List, [], ◌∷◌, length, refl, sym, ap, ◌∙◌, subst, arith, Bool, true, false, take, drop}
use Rattle.std.specs.Prelude.{not, ◌&&◌, ◌||◌, Option, Some, None, is_some, nat_eq}
use Rattle.std.specs.List.{list_all}
use Rattle.std.proofs.lemmas.Bool.{and_parts, or_parts, eqb-true, eq-eqb, lt-ltb}
use Rattle.affine_expr.specs.declared.expr.Expr.{Expr, Dim, Const}
use Rattle.affine_expr.specs.Pure.{has_leaves_below, is_pure}
use Rattle.affine_ast.specs.declared.name.Name.{Name}
use Rattle.affine_ast.specs.declared.types.Access.{Access}
use Rattle.affine_ast.specs.declared.types.Bound.{Bound}
use Rattle.affine_ast.specs.declared.types.Bound.TheVariants as bound
use Rattle.affine_ast.specs.declared.types.Scalar.TheVariants.{Index}
use Rattle.affine_ast.specs.Names.{same_name, put}
use Rattle.affine_ast.specs.Sizes.{product}
use Rattle.affine_ast.proofs.Names.{put-same, put-other, put-both, same_name-eq, same_name-refl, same_name-is, same_name-sym}
use Rattle.affine_ast.specs.Rules.{is_in, are_in, is_new, is_dimension, may_be_dimension, is_symbol, operands_stand, bound_in, bound_stands, bound_fits, bound_pure, map_fits, has_result, access_pure, row_has_leaves, row_pure, set_fits, set_pure}
use Rattle.affine_ast.specs.Scope.{Binding, IndexConstant, Allocation, Scope}
use Rattle.placement_texts.specs.Template.{How, Copies, Transfers, Placement, dim_extents, fast_name, tag_name, count_name, stride_name, chunk_name}
use Rattle.placement_texts.proofs.ScopedRedirect.{leaves-Dim, leaves-Const}
use Rattle.placement_texts.proofs.ScopedAccess.{pure-Dim, pure-Const}
use Rattle.loop_forms.specs.Split.{as_map, behind, sole}
use Rattle.loop_forms.specs.Sums.{sum_of}
use Rattle.ring_plans.specs.Rings.{late_rows, ring_tags, ring_type}
use Rattle.ring_validity.specs.Bodies.{bound_uses, is_memref, is_constant, is_special, NoMemrefs, IsRing, Beside}
use Rattle.ring_validity.specs.Openings.{with_constant, chunks_scope, constants_scope, template_scope, NoneTaken, NoneTakenBy, CanHaveRing, CanHaveRings, BoundWell, ring_scope}
use Rattle.ring_validity.specs.Wells.{kind_of, a_number, ConditionWell}
use Rattle.ring_validity.proofs.Same.{Same, AllSame, are_same, operands_same, bound_same, bound_stands_same}
use Rattle.ring_validity.proofs.Body.{there_or_not, bound_uses_in}
use Rattle.ring_validity.proofs.Forms.{behind_leaves, behind_pure, sum_leaves, sum_pure}

pub new_is_none : (s : Scope) (n : Name) → is_new s n ≡ true → s n ≡ None
unfolding is_in
new_is_none s n h = by (s n) h
  where
    by : (o : Option Binding) → not (is_some o) ≡ true → o ≡ None
    by None k = refl
    by (Some b) k = absurd (cc)

pub new_as : (s t : Scope) (n : Name) → t n ≡ s n → is_new s n ≡ true → is_new t n ≡ true
unfolding is_in
new_as s t n e h = ap (λ x. not (is_some x)) e ∙ h

-- ---- one placement's names
module _ (p : Placement) where
  -- what holds of all names of the template holds of each of these
  pub special_of : (P : Name → Type 0) → ((i : ℕ) → P (p.name i)) → (n : Name) → is_special p n ≡ true → P n
  special_of P h n k = by (same_name (p.name 0) n) (same_name (p.name 1) n) (same_name (p.name 2) n) (same_name (p.name 3) n) (same_name (p.name 4) n) refl refl refl refl refl k
    where
      at : (i : ℕ) → same_name (p.name i) n ≡ true → P n
      at i e = subst P (same_name-eq (p.name i) n e) (h i)

      by : (a b c d e : Bool) → same_name (p.name 0) n ≡ a → same_name (p.name 1) n ≡ b → same_name (p.name 2) n ≡ c → same_name (p.name 3) n ≡ d → same_name (p.name 4) n ≡ e → ((a || b) || (c || (d || e))) ≡ true → P n
      by true b c d e ha hb hc hd he o = at 0 ha
      by false true c d e ha hb hc hd he o = at 1 hb
      by false false true d e ha hb hc hd he o = at 2 hc
      by false false false true e ha hb hc hd he o = at 3 hd
      by false false false false true ha hb hc hd he o = at 4 he
      by false false false false false ha hb hc hd he o = absurd (cc)

  pub memref_special : (n : Name) → is_memref p n ≡ true → is_special p n ≡ true
  memref_special n h = ap (λ k. k || is_constant p n) h

  or_second : (x y : Bool) → y ≡ true → (x || y) ≡ true
  or_second true y h = refl
  or_second false y h = h

  pub constant_special : (n : Name) → is_constant p n ≡ true → is_special p n ≡ true
  constant_special n h = or_second (is_memref p n) (is_constant p n) h

  pub fast_special : is_special p (fast_name p.name) ≡ true
  fast_special = memref_special (fast_name p.name) (ap (λ k. k || same_name (tag_name p.name) (fast_name p.name)) (same_name-refl (fast_name p.name)))

  pub tag_special : is_special p (tag_name p.name) ≡ true
  tag_special = memref_special (tag_name p.name) (or_second (same_name (fast_name p.name) (tag_name p.name)) (same_name (tag_name p.name) (tag_name p.name)) (same_name-refl (tag_name p.name)))

  pub count_special : is_special p (count_name p.name) ≡ true
  count_special = constant_special (count_name p.name) (ap (λ k. k || (same_name (stride_name p.name) (count_name p.name) || same_name (chunk_name p.name) (count_name p.name))) (same_name-refl (count_name p.name)))

  pub record Others (n : Name) : Type 0 where
    pub fast : same_name (fast_name p.name) n ≡ false
    pub tag : same_name (tag_name p.name) n ≡ false
    pub count : same_name (count_name p.name) n ≡ false
    pub stride : same_name (stride_name p.name) n ≡ false
    pub chunk : same_name (chunk_name p.name) n ≡ false

  pub others : (n : Name) → is_special p n ≡ false → Others n
  others n h =
      let a = or_parts (is_memref p n) (is_constant p n) h in
      let m = or_parts (same_name (fast_name p.name) n) (same_name (tag_name p.name) n) a.0 in
      let c = or_parts (same_name (count_name p.name) n) (same_name (stride_name p.name) n || same_name (chunk_name p.name) n) a.1 in
      let k = or_parts (same_name (stride_name p.name) n) (same_name (chunk_name p.name) n) c.1 in
      record { fast = m.0; tag = m.1; count = c.0; stride = k.0; chunk = k.1 }

  -- ---- the names in scope behind the constants
  constants_other : (how : How) (s : Scope) (n : Name) → is_special p n ≡ false → constants_scope p how s n ≡ s n
  constants_other Copies s n h = refl
  constants_other (Transfers None) s n h = put-other s (count_name p.name) _ n (others n h).count
  constants_other (Transfers (Some two)) s n h =
      let o = others n h in
      let s1 = with_constant (count_name p.name) (product (dim_extents p.dims)) s in
      put-other (with_constant (stride_name p.name) two.0 s1) (chunk_name p.name) _ n o.chunk ∙ put-other s1 (stride_name p.name) _ n o.stride ∙ put-other s (count_name p.name) _ n o.count

  constants_both : (how : How) (s t : Scope) (n : Name) → s n ≡ t n → constants_scope p how s n ≡ constants_scope p how t n
  constants_both Copies s t n h = h
  constants_both (Transfers None) s t n h = put-both s t (count_name p.name) _ _ n refl h
  constants_both (Transfers (Some two)) s t n h =
      let s1 = with_constant (count_name p.name) (product (dim_extents p.dims)) s in
      let t1 = with_constant (count_name p.name) (product (dim_extents p.dims)) t in
      put-both (with_constant (stride_name p.name) two.0 s1) (with_constant (stride_name p.name) two.0 t1) (chunk_name p.name) _ _ n refl
      (put-both s1 t1 (stride_name p.name) _ _ n refl (put-both s t (count_name p.name) _ _ n refl h))

  counted : (s : Scope) (d : Name → Bool) (v : Name) → CanHaveRing s d v p → template_scope p (count_name p.name) ≡ Some (IndexConstant (pos (product (dim_extents p.dims))))
  counted s d v can = ap (λ h. constants_scope p h (λ n. None) (count_name p.name)) can.transfers ∙ by can.chunks
    where
      by : (chunks : Option (ℕ × ℕ)) → constants_scope p (Transfers chunks) (λ n. None) (count_name p.name) ≡ Some (IndexConstant (pos (product (dim_extents p.dims))))
      by None = put-same (λ n. None) (count_name p.name) _ (count_name p.name) (same_name-refl (count_name p.name))
      by (Some two) =
          let s1 = with_constant (count_name p.name) (product (dim_extents p.dims)) (λ n. None) in
          put-other (with_constant (stride_name p.name) two.0 s1) (chunk_name p.name) _ (count_name p.name) (can.apart 4 2) ∙ put-other s1 (stride_name p.name) _ (count_name p.name) (can.apart 3 2)
          ∙ put-same (λ n. None) (count_name p.name) _ (count_name p.name) (same_name-refl (count_name p.name))

-- ---- a bound as a map
pub map_uses : (s : Scope) (l : Bound) → BoundWell s l → are_in s (as_map l).operands ≡ true
unfolding are_in
map_uses s (bound.Int z) w = refl
map_uses s (bound.Value n) w = λ i. w.uses i && true
map_uses s (bound.Map at) w = w.uses

pub map_stands : (s : Scope) (l : Bound) → BoundWell s l → operands_stand s (as_map l).map.dims (as_map l).operands ≡ true
unfolding operands_stand
map_stands s (bound.Int z) w = refl
map_stands s (bound.Value n) w = λ i. (w.stand i && true) && true
map_stands s (bound.Map at) w = w.stand

pub fitted : (s : Scope) (l : Bound) → BoundWell s l → map_fits (as_map l) ≡ true
unfolding map_fits
fitted s (bound.Int z) w = λ i. leaves-Const 0 0 z i && true
fitted s (bound.Value n) w = λ i. (leaves-Dim 1 0 0) i && true
fitted s (bound.Map at) w = (and_parts (map_fits at) (has_result at) w.fits).0

pub map_pure : (s : Scope) (l : Bound) → BoundWell s l → access_pure (as_map l) ≡ true
unfolding access_pure
map_pure s (bound.Int z) w = λ i. pure-Const z i && true
map_pure s (bound.Value n) w = λ i. pure-Dim 0 i && true
map_pure s (bound.Map at) w = w.pure

pub sole_leaves : (d n : ℕ) (es : List Expr) → list_all (has_leaves_below d n) es ≡ true → has_leaves_below d n (sole es) ≡ true
sole_leaves d n [] h = leaves-Const d n (pos 0)
sole_leaves d n (e ∷ es) h = (and_parts (has_leaves_below d n e) (list_all (has_leaves_below d n) es) h).0

pub sole_pure : (es : List Expr) → list_all is_pure es ≡ true → is_pure (sole es) ≡ true
sole_pure [] h = pure-Const (pos 0)
sole_pure (e ∷ es) h = (and_parts (is_pure e) (list_all is_pure es) h).0

module _ (buffers : ℕ) (v : Name) (lower upper : Bound) (step : ℤ) where
  module _ (p : Placement) where
    pub scope_other : (s : Scope) (n : Name) → is_special p n ≡ false → ring_scope buffers v lower upper step p s n ≡ s n
    scope_other s n h =
        let o = others p n h in
        let c = constants_scope p p.how s in
        put-other (put c (fast_name p.name) (Some (Allocation (ring_type buffers v lower upper step p)))) (tag_name p.name) _ n o.tag ∙ put-other c (fast_name p.name) _ n o.fast ∙ constants_other p p.how s n h

    -- what is in scope is none of the new names
    pub in_other : (s : Scope) → ((i : ℕ) → is_new s (p.name i) ≡ true) → (n : Name) → is_in s n ≡ true → is_special p n ≡ false
    unfolding is_in
    in_other s new n h = by (is_special p n) refl
      where
        by : (c : Bool) → is_special p n ≡ c → is_special p n ≡ false
        by false e = e
        by true e = absurd (there_or_not (s n) h (special_of p (λ n. s n ≡ None) (λ i. new_is_none s (p.name i) (new i)) n e))

    pub stay_same : (s : Scope) (d : Name → Bool) → ((i : ℕ) → is_new s (p.name i) ≡ true) → (ns : List Name) → are_in s ns ≡ true → AllSame s (ring_scope buffers v lower upper step p s) d d ns
    unfolding are_in
    stay_same s d new [] h = tt
    stay_same s d new (n ∷ ns) h =
        let q = and_parts (is_in s n) (list_all (is_in s) ns) h in
        ((ap kind_of (scope_other s n (in_other s new n q.0)), refl), stay_same s d new ns q.1)

    pub bound_stays : (s : Scope) (d : Name → Bool) → ((i : ℕ) → is_new s (p.name i) ≡ true) → (l : Bound) → BoundWell s l → BoundWell (ring_scope buffers v lower upper step p s) l
    bound_stays s d new l w =
        let same = stay_same s d new (bound_uses l) (bound_uses_in s l w.uses) in
        record {
          uses = bound_same s (ring_scope buffers v lower upper step p s) d d l same ∙ w.uses;
          stand = bound_stands_same s (ring_scope buffers v lower upper step p s) d d l same ∙ w.stand;
          fits = w.fits;
          pure = w.pure;
        }

  -- ---- the condition of a late wait
  one_more : (k : ℕ) → 1 + k ≡ suc k
  one_more k = omega arith

  no_more : (k : ℕ) → 0 + k ≡ k
  no_more k = omega arith

  late_fits : (at : Access) → map_fits at ≡ true → set_fits (late_rows buffers v lower upper step at) (v ∷ at.operands) ≡ true
  unfolding map_fits set_fits
  late_fits at h =
      let d = at.map.dims in
      let n = at.map.syms in
      let q = and_parts (nat_eq (length at.operands) (d + n)) (list_all (has_leaves_below d n) at.map.results) h in
      let long : length at.operands ≡ d + n = eqb-true (length at.operands) (d + n) q.0 in
      let moved : has_leaves_below (suc d) n (behind 1 0 (sole at.map.results)) ≡ true = subst (λ k. has_leaves_below (suc d) k (behind 1 0 (sole at.map.results)) ≡ true) (no_more n) (subst (λ k. has_leaves_below k (0 + n) (behind 1 0 (sole at.map.results)) ≡ true) (one_more d) (behind_leaves 1 0 d n (sole at.map.results) (sole_leaves d n at.map.results q.1))) in
      λ i. eq-eqb (suc (length at.operands)) (suc d + n) (omega (arith, long)) i
      && (((leaves-Dim (suc d) n 0 ∙ lt-ltb 0 (suc d) (omega arith)) i && sum_leaves (suc d) n (behind 1 0 (sole at.map.results)) (Const (pos buffers *ℤ step)) moved (leaves-Const (suc d) n (pos buffers *ℤ step)) i) && true)

  late_pure : (at : Access) → access_pure at ≡ true → set_pure (late_rows buffers v lower upper step at) ≡ true
  unfolding access_pure set_pure
  late_pure at h =
      λ i. (pure-Dim 0 i && sum_pure (behind 1 0 (sole at.map.results)) (Const (pos buffers *ℤ step)) (behind_pure 1 0 (sole at.map.results) (sole_pure at.map.results h)) (pure-Const (pos buffers *ℤ step)) i) && true

  -- where the variable stands for a number, and all else that is in scope stays
  late_there : (s t : Scope) (d : Name → Bool) → BoundWell s lower → t v ≡ a_number → AllSame s t d d (as_map lower).operands → ConditionWell t (late_rows buffers v lower upper step (as_map lower)) (v ∷ (as_map lower).operands)
  unfolding is_in are_in is_dimension operands_stand
  late_there s t d w turn same =
      let uses = are_same s t d d (as_map lower).operands same ∙ map_uses s lower w in
      let stand = operands_same s t d d (as_map lower).map.dims (as_map lower).operands same ∙ map_stands s lower w in
      let q = and_parts (list_all (is_dimension t) (take (as_map lower).map.dims (as_map lower).operands)) (list_all (is_symbol t) (drop (as_map lower).map.dims (as_map lower).operands)) stand in
      record {
        uses = λ i. is_some (turn i) && uses i;
        stand = λ i. (may_be_dimension (turn i) && q.0 i) && q.1 i;
        fits = late_fits (as_map lower) (fitted s lower w);
        pure = late_pure (as_map lower) (map_pure s lower w);
      }

  -- ---- the beginning of the body
  pub is_ring : (p : Placement) (s : Scope) (d : Name → Bool) → 1 ≤ buffers → pos 0 <ℤ step → CanHaveRing s d v p → IsRing buffers v lower upper step p (template_scope p)
  is_ring p s d some positive can = record {
    some = some;
    positive = positive;
    memrefs_apart = can.apart 1 0;
    count_apart = λ i. can.apart 0 2 i || can.apart 1 2 i;
    count = pos (product (dim_extents p.dims));
    counted = counted p s d v can;
    least = can.least;
    turn_apart = can.turn;
  }

  differs : (p : Placement) (n : Name) → is_special p v ≡ false → is_special p n ≡ true → same_name v n ≡ false
  differs p n h k = by (same_name v n) refl
    where
      by : (c : Bool) → same_name v n ≡ c → same_name v n ≡ false
      by false e = e
      by true e = let z : true ≡ false = sym k ∙ ap (is_special p) (sym (same_name-eq v n e)) ∙ h in absurd (cc)

  all_turn_same : (s t : Scope) (d : Name → Bool) (ns : List Name) → is_new s v ≡ true → are_in s ns ≡ true → AllSame s t d d ns → AllSame s (put t v a_number) d d ns
  unfolding is_in are_in
  all_turn_same s t d [] new h same = tt
  all_turn_same s t d (n ∷ ns) new h same =
      let q = and_parts (is_some (s n)) (list_all (is_in s) ns) h in
      ((ap kind_of (put-other t v a_number n (by n q.0 (same_name v n) refl)) ∙ same.0.0, refl), all_turn_same s t d ns new q.1 same.1)
    where
      by : (n : Name) → is_some (s n) ≡ true → (c : Bool) → same_name v n ≡ c → same_name v n ≡ false
      by n k false e = e
      by n k true e = absurd (there_or_not (s n) k (ap s (sym (same_name-eq v n e)) ∙ new_is_none s v new))

  pub begins_beside : (p : Placement) (s : Scope) (d : Name → Bool) → BoundWell s lower → is_new s v ≡ true → CanHaveRing s d v p
      → Beside buffers v lower upper step p (template_scope p) (put s v a_number) (put (ring_scope buffers v lower upper step p s) v a_number) d d
  begins_beside p s d w new can =
      let t = ring_scope buffers v lower upper step p s in
      let c = constants_scope p p.how s in
      let f = put c (fast_name p.name) (Some (Allocation (ring_type buffers v lower upper step p))) in
      record {
        others = λ n h. put-both t s v a_number a_number n refl (scope_other p s n h);
        constants = λ n h m.
            let k = differs p n can.turn (constant_special p n h) in
            let none : s n ≡ None = special_of p (λ n. s n ≡ None) (λ i. new_is_none s (p.name i) (can.new_names i)) n (constant_special p n h) in
            let apart = or_parts (same_name (fast_name p.name) n) (same_name (tag_name p.name) n) m in (
              put-other t v a_number n k ∙ put-other f (tag_name p.name) _ n apart.1 ∙ put-other c (fast_name p.name) _ n apart.0 ∙ constants_both p p.how s (λ n. None) n none,
              inl (put-other s v a_number n k ∙ none),
            );
        released = λ n h. refl;
        fast = put-other t v a_number (fast_name p.name) (differs p (fast_name p.name) can.turn (fast_special p)) ∙ put-other f (tag_name p.name) _ (fast_name p.name) (can.apart 1 0) ∙ put-same c (fast_name p.name) _ (fast_name p.name) (same_name-refl (fast_name p.name));
        fast_live = can.live 0;
        tags = put-other t v a_number (tag_name p.name) (differs p (tag_name p.name) can.turn (tag_special p)) ∙ put-same f (tag_name p.name) _ (tag_name p.name) (same_name-refl (tag_name p.name));
        tags_live = can.live 1;
        turn = put-same t v a_number v (same_name-refl v);
        late = λ h. late_there s (put t v a_number) d w (put-same t v a_number v (same_name-refl v)) (all_turn_same s t d (as_map lower).operands new (map_uses s lower w) (stay_same p s d can.new_names (as_map lower).operands (map_uses s lower w)));
      }

  -- ---- more placements there
  taken_stays : (p q : Placement) (s : Scope) (d : Name → Bool) → NoneTaken p q → CanHaveRing s d v q → CanHaveRing (ring_scope buffers v lower upper step p s) d v q
  taken_stays p q s d none can = record {
    chunks = can.chunks;
    transfers = can.transfers;
    apart = can.apart;
    new_names = λ i. new_as s (ring_scope buffers v lower upper step p s) (q.name i) (scope_other p s (q.name i) (none i)) (can.new_names i);
    live = can.live;
    least = can.least;
    turn = can.turn;
  }

  pub rings_stay : (p : Placement) (qs : List Placement) (s : Scope) (d : Name → Bool) → NoneTakenBy p qs → CanHaveRings s d v qs → CanHaveRings (ring_scope buffers v lower upper step p s) d v qs
  rings_stay p [] s d none can = tt
  rings_stay p (q ∷ qs) s d none can = (taken_stays p q s d none.0 can.0, can.1, rings_stay p qs s d none.1 can.2)

  pub turn_new : (p : Placement) (s : Scope) → is_special p v ≡ false → is_new s v ≡ true → is_new (ring_scope buffers v lower upper step p s) v ≡ true
  turn_new p s h new = new_as s (ring_scope buffers v lower upper step p s) v (scope_other p s v h) new
