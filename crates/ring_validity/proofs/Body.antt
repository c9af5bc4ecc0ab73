-- The body of a loop, with a ring for a placement in it, is well-formed where the single text is.
use Rattle.std.proofs.Common.{◌≡◌, ◌⊎◌, inl, inr, ℕ, suc, ◌+◌, ◌≤◌, ℤ, pos, List, [], ◌∷◌, ◌++◌, refl, sym, ap, ◌∙◌, subst, arith, Bool, true, false}
use Rattle.std.specs.Prelude.{not, ◌&&◌, ◌||◌, Option, Some, None, is_some, nat_eq, if◌then◌else◌}
use Rattle.std.specs.List.{list_all}
use Rattle.std.proofs.lemmas.Bool.{and_parts, or_parts}
use Rattle.affine_ast.specs.declared.name.Name.{Name}
use Rattle.affine_ast.specs.declared.types.Access.{Access}
use Rattle.affine_ast.specs.declared.types.Bound.{Bound}
use Rattle.affine_ast.specs.declared.types.Bound.TheVariants as bound
use Rattle.affine_ast.specs.declared.types.MemrefType.{MemrefType}
use Rattle.affine_ast.specs.declared.types.Scalar.TheVariants.{Int}
use Rattle.affine_ast.specs.Names.{same_name, put}
use Rattle.affine_ast.proofs.Names.{put-same, put-other, put-both, same_name-eq, same_name-refl, same_name-is, same_name-sym}
use Rattle.affine_ast.specs.Nest.{Plain, Nest, Nothing, Loop, Branch, Does, Value, Load, Store, RawLoad, RawStore, Constant, Binary, Cast, Alloc, Dealloc, Start, Wait, Return}
use Rattle.affine_ast.specs.Parts.{uses_of, result_of, start_uses, stride_names}
use Rattle.affine_ast.specs.Scope.{Binding, IndexConstant, Allocation, Scope}
use Rattle.affine_ast.specs.Rules.{is_in, are_in, is_new, is_new_result, defines_new, uses_in_scope, bound_in, place_in}
use Rattle.placement_texts.specs.Template.{Placement, fast_name, tag_name}
use Rattle.ring_plans.specs.Rings.{in_ring}
use Rattle.ring_validity.specs.Wells.{kind_of, a_number, known_behind, released_behind, PlainWell, LoopWell, ConditionWell, WellFormed}
use Rattle.ring_validity.specs.Bodies.{bound_uses, is_memref, is_constant, is_special, NoMemrefs, NotSpecial, IsOther, IsMine, HoldsTemplate, IsRing, Beside}
use Rattle.ring_validity.proofs.Same.{Same, AllSame, condition_well}

-- ---- what is used is in scope
both_in : (s : Scope) (ns ms : List Name) → are_in s ns ≡ true → are_in s ms ≡ true → are_in s (ns ++ ms) ≡ true
unfolding are_in
both_in s [] ms h k = k
both_in s (n ∷ ns) ms h k = let p = and_parts (is_in s n) (list_all (is_in s) ns) h in λ i. p.0 i && both_in s ns ms p.1 k i

cons_in : (s : Scope) (n : Name) (ns : List Name) → is_in s n ≡ true → are_in s ns ≡ true → are_in s (n ∷ ns) ≡ true
unfolding are_in
cons_in s n ns h k = λ i. h i && k i

nil_in : (s : Scope) → are_in s [] ≡ true
unfolding are_in
nil_in s = refl

place_uses_in : (s : Scope) (m : Name) (at : Access) (more : List Name) → place_in s m at ≡ true → are_in s more ≡ true → are_in s (m ∷ at.operands ++ more) ≡ true
place_uses_in s m at more h k =
    let p = and_parts (is_in s m) (are_in s at.operands) h in
    cons_in s m (at.operands ++ more) p.0 (both_in s at.operands more p.1 k)

pub uses_are_in : (s : Scope) (q : Plain) → uses_in_scope s q ≡ true → are_in s (uses_of q) ≡ true
uses_are_in s (Value r pick at) h = h
uses_are_in s (Load r m at ty) h = let p = and_parts (is_in s m) (are_in s at.operands) h in cons_in s m at.operands p.0 p.1
uses_are_in s (Store x m at ty) h =
    let q = and_parts (is_in s x) (place_in s m at) h in
    let p = and_parts (is_in s m) (are_in s at.operands) q.1 in
    cons_in s x (m ∷ at.operands) q.0 (cons_in s m at.operands p.0 p.1)
uses_are_in s (RawLoad r m at ty) h = let p = and_parts (is_in s m) (are_in s at) h in cons_in s m at p.0 p.1
uses_are_in s (RawStore x m at ty) h =
    let q = and_parts (is_in s x) (is_in s m && are_in s at) h in
    let p = and_parts (is_in s m) (are_in s at) q.1 in
    cons_in s x (m ∷ at) q.0 (cons_in s m at p.0 p.1)
uses_are_in s (Constant r z ty) h = nil_in s
uses_are_in s (Binary r op x y ty) h = let p = and_parts (is_in s x) (is_in s y) h in cons_in s x (y ∷ []) p.0 (cons_in s y [] p.1 (nil_in s))
uses_are_in s (Cast r kind x from to) h = cons_in s x [] h (nil_in s)
uses_are_in s (Alloc r ty) h = nil_in s
uses_are_in s (Dealloc m ty) h = cons_in s m [] h (nil_in s)
uses_are_in s (Start x x_at y y_at t t_at n stride types) h =
    let a = and_parts (place_in s x x_at) (place_in s y y_at && (place_in s t t_at && (is_in s n && are_in s (stride_names stride)))) h in
    let b = and_parts (place_in s y y_at) (place_in s t t_at && (is_in s n && are_in s (stride_names stride))) a.1 in
    let c = and_parts (place_in s t t_at) (is_in s n && are_in s (stride_names stride)) b.1 in
    let k = and_parts (is_in s n) (are_in s (stride_names stride)) c.1 in
    place_uses_in s x x_at (y ∷ y_at.operands ++ (t ∷ t_at.operands ++ (n ∷ stride_names stride))) a.0
    (place_uses_in s y y_at (t ∷ t_at.operands ++ (n ∷ stride_names stride)) b.0
    (place_uses_in s t t_at (n ∷ stride_names stride) c.0 (cons_in s n (stride_names stride) k.0 k.1)))
uses_are_in s (Wait t at n ty) h =
    let p = and_parts (place_in s t at) (is_in s n) h in
    place_uses_in s t at (n ∷ []) p.0 (cons_in s n [] p.1 (nil_in s))
uses_are_in s Return h = nil_in s

pub bound_uses_in : (s : Scope) (l : Bound) → bound_in s l ≡ true → are_in s (bound_uses l) ≡ true
bound_uses_in s (bound.Int z) h = nil_in s
bound_uses_in s (bound.Value n) h = cons_in s n [] h (nil_in s)
bound_uses_in s (bound.Map at) h = h

pub there_or_not : (o : Option Binding) → is_some o ≡ true → o ≡ None → ⊥
there_or_not (Some b) h k = cc
there_or_not None h k = cc

-- a new name is none in scope
pub new_differs : (t : Scope) (r n : Name) → is_new t r ≡ true → is_in t n ≡ true → same_name r n ≡ false
unfolding is_in
new_differs t r n h k = by (same_name r n) refl
  where
    by : (c : Bool) → same_name r n ≡ c → same_name r n ≡ false
    by false e = e
    by true e =
        let z : true ≡ false = sym h ∙ (λ i. not (is_some (t (same_name-eq r n e i)))) ∙ (λ i. not (k i)) in absurd (cc)

-- so what is in scope stays behind a definition
pub stays_same : (t : Scope) (e : Name → Bool) (r : Name) (b : Option Binding) (ns : List Name) → is_new t r ≡ true → are_in t ns ≡ true → AllSame t (put t r b) e e ns
unfolding are_in
stays_same t e r b [] h k = tt
stays_same t e r b (n ∷ ns) h k =
    let p = and_parts (is_in t n) (list_all (is_in t) ns) k in
    ((ap kind_of (put-other t r b n (new_differs t r n h p.0)), refl), stays_same t e r b ns h p.1)

module _ (buffers : ℕ) (v : Name) (lower upper : Bound) (step : ℤ) (p : Placement) (known : Scope) (is : IsRing buffers v lower upper step p known) where
  abbrev B : Scope → Scope → (Name → Bool) → (Name → Bool) → Type 0
  B s t d e = Beside buffers v lower upper step p known s t d e

  pub fast_memref : is_memref p (fast_name p.name) ≡ true
  fast_memref = ap (λ x. x || same_name (tag_name p.name) (fast_name p.name)) (same_name-refl (fast_name p.name))

  or_second : (x y : Bool) → y ≡ true → (x || y) ≡ true
  or_second true y h = refl
  or_second false y h = h

  pub tag_memref : is_memref p (tag_name p.name) ≡ true
  tag_memref = or_second (same_name (fast_name p.name) (tag_name p.name)) (same_name (tag_name p.name) (tag_name p.name)) (same_name-refl (tag_name p.name))

  -- names that differ by a test aren't one
  pub differ : (f : Name → Bool) (r n : Name) → f r ≡ true → f n ≡ false → same_name r n ≡ false
  differ f r n h k = by (same_name r n) refl
    where
      by : (c : Bool) → same_name r n ≡ c → same_name r n ≡ false
      by false e = e
      by true e = let z : true ≡ false = sym h ∙ ap f (same_name-eq r n e) ∙ k in absurd (cc)

  pub differ_back : (f : Name → Bool) (r n : Name) → f r ≡ false → f n ≡ true → same_name r n ≡ false
  differ_back f r n h k = same_name-sym r n ∙ differ f n r k h

  pub special_parts : (n : Name) → is_special p n ≡ false → (is_memref p n ≡ false) × (is_constant p n ≡ false)
  special_parts n h = or_parts (is_memref p n) (is_constant p n) h

  -- ---- a used name stands for the same
  used_same : (s t : Scope) (d e : Name → Bool) → B s t d e → (n : Name) → is_memref p n ≡ false → is_in s n ≡ true → Same s t d e n
  unfolding is_in
  used_same s t d e w n m h = (ap kind_of (by (is_constant p n) refl), w.released n m)
    where
      by : (c : Bool) → is_constant p n ≡ c → t n ≡ s n
      by false k = w.others n ((λ i. m i || k i))
      by true k = of (w.constants n k m).1
        where
          of : (s n ≡ None) ⊎ (s n ≡ t n) → t n ≡ s n
          of (inl none) = absurd (there_or_not (s n) h none)
          of (inr same) = sym same

  pub all_used : (s t : Scope) (d e : Name → Bool) → B s t d e → (ns : List Name) → NoMemrefs p ns → are_in s ns ≡ true → AllSame s t d e ns
  unfolding are_in
  all_used s t d e w [] m h = tt
  all_used s t d e w (n ∷ ns) m h =
      let q = and_parts (is_in s n) (list_all (is_in s) ns) h in
      (used_same s t d e w n m.0 q.0, all_used s t d e w ns m.1 q.1)

  pub new_there : (s t : Scope) (d e : Name → Bool) → B s t d e → (r : Name) → is_special p r ≡ false → is_new s r ≡ true → is_new t r ≡ true
  unfolding is_in
  new_there s t d e w r h k = ap (λ x. not (is_some x)) (w.others r h) ∙ k

  pub turn_in : (s t : Scope) (d e : Name → Bool) → B s t d e → is_in t v ≡ true
  unfolding is_in
  turn_in s t d e w = ap is_some w.turn

  -- ---- behind statements
  pub beside_put : (s t : Scope) (d e : Name → Bool) (r : Name) (b : Option Binding) → B s t d e → is_special p r ≡ false → is_new t r ≡ true → B (put s r b) (put t r b) d e
  beside_put s t d e r b w h new =
      let q = special_parts r h in
      record {
        others = λ n k. put-both t s r b b n refl (w.others n k);
        constants = λ n k m.
            let o = w.constants n k m in
            let apart = differ_back (is_constant p) r n q.1 k in
            let t_is = put-other t r b n apart in
            let s_is = put-other s r b n apart in
            (t_is ∙ o.0, either (s n) (t n) (put s r b n) (put t r b n) s_is t_is o.1);
        released = w.released;
        fast = put-other t r b (fast_name p.name) (differ_back (is_memref p) r (fast_name p.name) q.0 fast_memref) ∙ w.fast;
        fast_live = w.fast_live;
        tags = put-other t r b (tag_name p.name) (differ_back (is_memref p) r (tag_name p.name) q.0 tag_memref) ∙ w.tags;
        tags_live = w.tags_live;
        turn = put-other t r b v (new_differs t r v new (turn_in s t d e w)) ∙ w.turn;
        late = λ o. let c = w.late o in condition_well t (put t r b) e e _ _ (stays_same t e r b _ new c.uses) c;
      }
    where
      either : (x y x' y' : Option Binding) → x' ≡ x → y' ≡ y → (x ≡ None) ⊎ (x ≡ y) → (x' ≡ None) ⊎ (x' ≡ y')
      either x y x' y' h k (inl z) = inl (h ∙ z)
      either x y x' y' h k (inr z) = inr (h ∙ z ∙ sym k)

  pub beside_release : (s t : Scope) (d e : Name → Bool) (m : Name) → B s t d e → is_memref p m ≡ false → B s t (put d m true) (put e m true)
  beside_release s t d e m w h = record {
    others = w.others;
    constants = w.constants;
    released = λ n k. put-both e d m true true n refl (w.released n k);
    fast = w.fast;
    fast_live = put-other e m true (fast_name p.name) (differ_back (is_memref p) m (fast_name p.name) h fast_memref) ∙ w.fast_live;
    tags = w.tags;
    tags_live = put-other e m true (tag_name p.name) (differ_back (is_memref p) m (tag_name p.name) h tag_memref) ∙ w.tags_live;
    turn = w.turn;
    late = w.late;
  }

  -- what the template alone defines comes into scope in the single text
  pub beside_memref : (s t : Scope) (d e : Name → Bool) (r : Name) (b : Option Binding) → B s t d e → is_memref p r ≡ true → B (put s r b) t d e
  beside_memref s t d e r b w h = record {
    others = λ n k. w.others n k ∙ sym (put-other s r b n (differ (is_memref p) r n h (special_parts n k).0));
    constants = λ n k m. let o = w.constants n k m in (o.0, subst (λ x. (x ≡ None) ⊎ (x ≡ t n)) (sym (put-other s r b n (differ (is_memref p) r n h m))) o.1);
    released = w.released;
    fast = w.fast;
    fast_live = w.fast_live;
    tags = w.tags;
    tags_live = w.tags_live;
    turn = w.turn;
    late = w.late;
  }

  pub beside_freed : (s t : Scope) (d e : Name → Bool) (m : Name) → B s t d e → is_memref p m ≡ true → B s t (put d m true) e
  beside_freed s t d e m w h = record {
    others = w.others;
    constants = w.constants;
    released = λ n k. w.released n k ∙ sym (put-other d m true n (differ (is_memref p) m n h k));
    fast = w.fast;
    fast_live = w.fast_live;
    tags = w.tags;
    tags_live = w.tags_live;
    turn = w.turn;
    late = w.late;
  }

  pub beside_constant : (s t : Scope) (d e : Name → Bool) (r : Name) (b : Option Binding) → B s t d e → is_constant p r ≡ true → is_memref p r ≡ false → known r ≡ b → B (put s r b) t d e
  beside_constant s t d e r b w h m k = record {
    others = λ n o. w.others n o ∙ sym (put-other s r b n (differ (is_constant p) r n h (special_parts n o).1));
    constants = λ n c o. let q = w.constants n c o in (q.0, by n q (same_name r n) refl);
    released = w.released;
    fast = w.fast;
    fast_live = w.fast_live;
    tags = w.tags;
    tags_live = w.tags_live;
    turn = w.turn;
    late = w.late;
  }
    where
      by : (n : Name) → (t n ≡ known n) × ((s n ≡ None) ⊎ (s n ≡ t n)) → (c : Bool) → same_name r n ≡ c → (put s r b n ≡ None) ⊎ (put s r b n ≡ t n)
      by n q true e = inr (put-same s r b n e ∙ sym k ∙ ap known (same_name-eq r n e) ∙ sym q.0)
      by n q false e = subst (λ x. (x ≡ None) ⊎ (x ≡ t n)) (sym (put-other s r b n e)) q.1
