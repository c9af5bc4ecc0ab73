-- The action of a store is in the list of actions, in each visit of the store.
use Rattle.std.proofs.Common.{◌≡◌, ℕ, zero, suc, ◌<◌, Bool, true, false, cond, List, [], ◌∷◌, ◌++◌, length, get_or, ℤ, pos, ◌+ℤ◌, ◌*ℤ◌, ◌<ℤ◌, ◌≤ℤ◌, refl, sym, ◌∙◌, ap, subst, arith, append_assoc, append-nil, length-append}
use Rattle.std.specs.Prelude.{flat_map, Contains}
use Rattle.std.specs.Int.{int_max}
use Rattle.std.proofs.lemmas.Int.{ints}
use Rattle.num_row.proofs.Ring.{Var, ◌⊕◌, ◌⊗◌, ring, mul_nonneg}
use Rattle.constraint_set.specs.Lists.{Each}
use Rattle.constraint_set.proofs.Steps.{Each-append, Each-weaken}
use Rattle.affine_ast.specs.declared.name.Name.{Name}
use Rattle.affine_ast.specs.declared.types.Access.{Access}
use Rattle.affine_ast.specs.declared.types.MemrefType.{MemrefType}
use Rattle.affine_ast.specs.Names.{same_name}
use Rattle.affine_ast.proofs.Names.{same_name-eq}
use Rattle.affine_ast.specs.Nest.{Plain, Nest, Nothing, Loop, Branch, Does, Value, Load, Store, RawLoad, RawStore, Constant, Binary, Cast, Alloc, Dealloc, Start, Wait, Return}
use Rattle.direct_meaning.specs.Action.{Action}
use Rattle.direct_meaning.specs.Static.{Env, knows, lower_of, upper_of, holds_at}
use Rattle.direct_meaning.specs.Actions.{action_of, after_plain, behind, actions}
use Rattle.direct_meaning.specs.Pure.{AffineNest}
use Rattle.direct_meaning.specs.Turns.{turns}
use Rattle.direct_meaning.proofs.Laws.{turns_more}
use Rattle.nest_domain.specs.Ways.{Header, Round, Given, Except, Behind, Past, Use, Affine, Other, if_named, use_of, uses}
use Rattle.nest_domain.specs.Visits.{Visits}

contains_head : {A : Type 0} (x : A) (xs : List A) → Contains (x ∷ xs) x
contains_head x xs = (0, (omega arith), refl)

contains_tail : {A : Type 0} (x y : A) (xs : List A) → Contains xs y → Contains (x ∷ xs) y
contains_tail x y xs h = (suc h.0, (let k = h.1 in omega (arith, k)), h.2)

contains_right : {A : Type 0} (xs ys : List A) (y : A) → Contains ys y → Contains (xs ++ ys) y
contains_right [] ys y h = h
contains_right (x ∷ xs) ys y h = contains_tail x y (xs ++ ys) (contains_right xs ys y h)

contains_left : {A : Type 0} (xs ys : List A) (y : A) → Contains xs y → Contains (xs ++ ys) y
contains_left xs ys y h = (h.0, (let k = h.1 in omega (arith, k, length-append xs ys)), front xs h.0 h.1 ∙ h.2)
  where
    front : (xs : List _) (k : ℕ) → k < length xs → get_or (xs ++ ys) k y ≡ get_or xs k y
    front [] k h = absurd (omega arith)
    front (x ∷ xs) zero h = refl
    front (x ∷ xs) (suc k) h = front xs k (omega (arith, h))

contains_flat : {A B : Type 0} (f : A → List B) (xs : List A) (x : A) (y : B) → Contains xs x → Contains (f x) y → Contains (flat_map f xs) y
contains_flat f [] x y h k = absurd (let l = h.1 in omega (arith, l))
contains_flat {B = B} f (a ∷ xs) x y h k = by h.0 h.1 h.2 (λ j l e. contains_flat f xs x y (j, l, e) k)
  where
    by : (n : ℕ) → n < length (a ∷ xs) → get_or (a ∷ xs) n x ≡ x → ((j : ℕ) → j < length xs → get_or xs j x ≡ x → Contains (flat_map f xs) y) → Contains (f a ++ flat_map f xs) y
    by zero l e more = contains_left (f a) (flat_map f xs) y (subst (λ z. Contains (f z) y) (sym e) k)
    by (suc n) l e more = contains_right (f a) (flat_map f xs) y (more n (omega (arith, l)) e)

steps_from : (n : ℕ) (a s t : ℤ) → pos 0 <ℤ s → t ≡ a +ℤ pos n *ℤ s → a ≤ℤ t
steps_from n a s t up e = let m = mul_nonneg (pos n) s (omega (arith, ints)) (omega (arith, ints, up)) in rise (pos n *ℤ s) e m
  where
    rise : (x : ℤ) → t ≡ a +ℤ x → pos 0 ≤ℤ x → a ≤ℤ t
    rise x e m = omega (arith, ints, e, m)

turns_start : (a b s : ℤ) → pos 0 <ℤ s → a <ℤ b → turns a b s ≡ a ∷ turns (a +ℤ s) b s
turns_start a b s up less = turns_more a b s less ∙ ap (λ z. a ∷ turns (a +ℤ z) b s) step_is
  where
    step_is : int_max (pos 1) s ≡ s
    step_is = grind (arith, ints, up)

below_from : (a t b : ℤ) → a ≤ℤ t → t <ℤ b → a <ℤ b
below_from a t b h k = omega (arith, ints, h, k)

-- each number that is a turn is among the turns
pub turn_found : (n : ℕ) (a b s t : ℤ) → pos 0 <ℤ s → t ≡ a +ℤ pos n *ℤ s → t <ℤ b → Contains (turns a b s) t
turn_found zero a b s t up e less =
    let z : t ≡ a = none (pos 0 *ℤ s) e (ring (Var (pos 0) ⊗ Var s) (Var (pos 0)) (omega arith)) in
    subst (λ ts. Contains ts t) (sym (turns_start a b s up (below_from a t b (steps_from 0 a s t up e) less))) (subst (λ x. Contains (a ∷ turns (a +ℤ s) b s) x) (sym z) (contains_head a (turns (a +ℤ s) b s)))
  where
    none : (x : ℤ) → t ≡ a +ℤ x → x ≡ pos 0 → t ≡ a
    none x e z = omega (arith, ints, e, z)
turn_found (suc m) a b s t up e less =
    subst (λ ts. Contains ts t) (sym (turns_start a b s up (below_from a t b (steps_from (suc m) a s t up e) less)))
    (contains_tail a t (turns (a +ℤ s) b s) (turn_found m (a +ℤ s) b s t up (next (pos m *ℤ s) (pos (suc m) *ℤ s) e more) less))
  where
    more : pos (suc m) *ℤ s ≡ pos m *ℤ s +ℤ s
    more = ap (λ z. z *ℤ s) (succ m) ∙ ring ((Var (pos m) ⊕ Var (pos 1)) ⊗ Var s) (Var (pos m) ⊗ Var s ⊕ Var s) (omega arith)
      where
        succ : (j : ℕ) → pos (suc j) ≡ pos j +ℤ pos 1
        succ j = omega (arith, ints)

    next : (x y : ℤ) → t ≡ a +ℤ y → y ≡ x +ℤ s → t ≡ (a +ℤ s) +ℤ x
    next x y e f = omega (arith, ints, e, f)

-- ---- stores
module _ (name : Name) where
  -- a store of the memref stands at the end of a way from here, and in each visit its action is in the list
  pub record StoreIn (n : Nest) (acc there : List Header) (at : Access) : Type 0 where
    pub inner : List Header
    pub value : Name
    pub ty : MemrefType
    pub way : there ≡ acc ++ inner
    pub found : (e : Env) (ws : List ℤ) (g : Env) → Visits inner e ws g → Contains (actions n e) (action_of (Store value name at ty) g)

  abbrev pub FoundIn : Nest → List Header → Use → Type 0
  FoundIn n acc (Affine there true at) = StoreIn n acc there at
  FoundIn n acc (Affine there false at) = Unit {0}
  FoundIn n acc Other = Unit {0}

  -- from what stands behind one thing more on the way
  lift : (n m : Nest) (acc : List Header) (h : Header) (into : (hs : List Header) (a : Env → Action) → ((e : Env) (ws : List ℤ) (g : Env) → Visits hs e ws g → Contains (actions m e) (a g)) → (e : Env) (ws : List ℤ) (g : Env) → Visits (h ∷ hs) e ws g → Contains (actions n e) (a g))
      → (us : List Use) → Each (FoundIn m (acc ++ h ∷ [])) us → Each (FoundIn n acc) us
  lift n m acc h into us k = Each-weaken (FoundIn m (acc ++ h ∷ [])) (FoundIn n acc) one us k
    where
      one : (u : Use) → FoundIn m (acc ++ h ∷ []) u → FoundIn n acc u
      one (Affine there true at) s = record {
        inner = h ∷ s.inner;
        value = s.value;
        ty = s.ty;
        way = s.way ∙ append_assoc acc (h ∷ []) s.inner;
        found = into s.inner (λ g. action_of (Store s.value name at s.ty) g) s.found;
      }
      one (Affine there false at) s = tt
      one Other s = tt

  if_found : (n : Nest) (acc : List Header) (m : Name) (u : Use) → (same_name name m ≡ true → FoundIn n acc u) → Each (FoundIn n acc) (if_named name m u)
  if_found n acc m u k = by (same_name name m) refl
    where
      by : (b : Bool) → same_name name m ≡ b → Each (FoundIn n acc) (cond b (u ∷ []) [])
      by true e = (k e, tt)
      by false e = tt

  own_found : (line : ℕ) (p : Plain) (rest : Nest) (acc : List Header) → Each (FoundIn (Does line p rest) acc) (use_of name p acc)
  unfolding actions
  own_found line (Value r pick at) rest acc = tt
  own_found line (Load r n at ty) rest acc = if_found (Does line (Load r n at ty) rest) acc n (Affine acc false at) (λ e. tt)
  own_found line (Store x n at ty) rest acc = if_found (Does line (Store x n at ty) rest) acc n (Affine acc true at) (λ e. record {
    inner = [];
    value = x;
    ty = ty;
    way = sym (append-nil acc);
    found = λ f ws g v. subst (λ h. Contains (action_of (Store x n at ty) f ∷ actions rest (after_plain (Store x n at ty) f)) (action_of (Store x name at ty) h)) v.1
        (subst (λ m. Contains (action_of (Store x n at ty) f ∷ actions rest (after_plain (Store x n at ty) f)) (action_of (Store x m at ty) f)) (sym (same_name-eq name n e)) (contains_head (action_of (Store x n at ty) f) (actions rest (after_plain (Store x n at ty) f))));
  })
  own_found line (RawLoad r n at ty) rest acc = if_found (Does line (RawLoad r n at ty) rest) acc n Other (λ e. tt)
  own_found line (RawStore x n at ty) rest acc = if_found (Does line (RawStore x n at ty) rest) acc n Other (λ e. tt)
  own_found line (Constant r z ty) rest acc = tt
  own_found line (Binary r op x y ty) rest acc = tt
  own_found line (Cast r kind x from to) rest acc = tt
  own_found line (Alloc r ty) rest acc = tt
  own_found line (Dealloc n ty) rest acc = if_found (Does line (Dealloc n ty) rest) acc n Other (λ e. tt)
  own_found line (Start x x_at y y_at t t_at n stride types) rest acc =
      let nest = Does line (Start x x_at y y_at t t_at n stride types) rest in
      Each-append (FoundIn nest acc) (if_named name x Other) (if_named name y Other ++ if_named name t Other) (if_found nest acc x Other (λ e. tt))
      (Each-append (FoundIn nest acc) (if_named name y Other) (if_named name t Other) (if_found nest acc y Other (λ e. tt)) (if_found nest acc t Other (λ e. tt)))
  own_found line (Wait t at n ty) rest acc = if_found (Does line (Wait t at n ty) rest) acc t Other (λ e. tt)
  own_found line Return rest acc = tt

  chosen : (c d : Bool) (xs ys : List Action) (y : Action) → c ≡ d → Contains (cond d xs ys) y → Contains (cond c xs ys) y
  chosen c d xs ys y e h = subst (λ b. Contains (cond b xs ys) y) (sym e) h

  pub stores_found : (n : Nest) (acc : List Header) → AffineNest n → Each (FoundIn n acc) (uses name n acc)
  unfolding uses actions
  stores_found Nothing acc a = tt
  stores_found (Loop line v l u s body rest) acc a =
      Each-append (FoundIn (Loop line v l u s body rest) acc) (uses name body (acc ++ Round v l u s ∷ [])) (uses name rest (acc ++ Past body ∷ []))
      (lift (Loop line v l u s body rest) body acc (Round v l u s) turned (uses name body (acc ++ Round v l u s ∷ [])) (stores_found body (acc ++ Round v l u s ∷ []) a.3))
      (lift (Loop line v l u s body rest) rest acc (Past body) (λ hs act f e ws g vis. contains_right (flat_map (λ t. actions body (knows e v t)) (turns (lower_of e l) (upper_of e u) s)) (actions rest (behind body e)) (act g) (f (behind body e) ws g vis)) (uses name rest (acc ++ Past body ∷ [])) (stores_found rest (acc ++ Past body ∷ []) a.4))
    where
      turned : (hs : List Header) (act : Env → Action) → ((e : Env) (ws : List ℤ) (g : Env) → Visits hs e ws g → Contains (actions body e) (act g)) → (e : Env) (ws : List ℤ) (g : Env) → Visits (Round v l u s ∷ hs) e ws g
          → Contains (flat_map (λ t. actions body (knows e v t)) (turns (lower_of e l) (upper_of e u) s) ++ actions rest (behind body e)) (act g)
      turned hs act f e [] g vis = absurd vis
      turned hs act f e (t ∷ ws) g vis =
          contains_left (flat_map (λ t. actions body (knows e v t)) (turns (lower_of e l) (upper_of e u) s)) (actions rest (behind body e)) (act g)
          (contains_flat (λ t. actions body (knows e v t)) (turns (lower_of e l) (upper_of e u) s) t (act g) (turn_found vis.0.0 (lower_of e l) (upper_of e u) s t a.2 vis.0.1 vis.0.2) (f (knows e v t) ws g vis.1))
  stores_found (Branch line set names first has other rest) acc a =
      let n = Branch line set names first has other rest in
      Each-append (FoundIn n acc) (uses name first (acc ++ Given set names ∷ [])) (uses name other (acc ++ Except set names first ∷ []) ++ uses name rest ((acc ++ Past first ∷ []) ++ Past other ∷ []))
      (lift n first acc (Given set names) (λ hs act f e ws g vis. contains_left (cond (holds_at e set names) (actions first e) (actions other (behind first e))) (actions rest (behind other (behind first e))) (act g)
      (chosen (holds_at e set names) true (actions first e) (actions other (behind first e)) (act g) vis.0 (f e ws g vis.1))) (uses name first (acc ++ Given set names ∷ [])) (stores_found first (acc ++ Given set names ∷ []) a.0))
      (Each-append (FoundIn n acc) (uses name other (acc ++ Except set names first ∷ [])) (uses name rest ((acc ++ Past first ∷ []) ++ Past other ∷ []))
      (lift n other acc (Except set names first) (λ hs act f e ws g vis. contains_left (cond (holds_at e set names) (actions first e) (actions other (behind first e))) (actions rest (behind other (behind first e))) (act g)
      (chosen (holds_at e set names) false (actions first e) (actions other (behind first e)) (act g) vis.0 (f (behind first e) ws g vis.1))) (uses name other (acc ++ Except set names first ∷ [])) (stores_found other (acc ++ Except set names first ∷ []) a.1))
      (past (uses name rest ((acc ++ Past first ∷ []) ++ Past other ∷ [])) (stores_found rest ((acc ++ Past first ∷ []) ++ Past other ∷ []) a.2)))
    where
      past : (us : List Use) → Each (FoundIn rest ((acc ++ Past first ∷ []) ++ Past other ∷ [])) us → Each (FoundIn (Branch line set names first has other rest) acc) us
      past us k = Each-weaken (FoundIn rest ((acc ++ Past first ∷ []) ++ Past other ∷ [])) (FoundIn (Branch line set names first has other rest) acc) one us k
        where
          one : (u : Use) → FoundIn rest ((acc ++ Past first ∷ []) ++ Past other ∷ []) u → FoundIn (Branch line set names first has other rest) acc u
          one (Affine there true at) s = record {
            inner = Past first ∷ Past other ∷ s.inner;
            value = s.value;
            ty = s.ty;
            way = s.way ∙ append_assoc (acc ++ Past first ∷ []) (Past other ∷ []) s.inner ∙ append_assoc acc (Past first ∷ []) (Past other ∷ s.inner);
            found = λ e ws g vis. contains_right (cond (holds_at e set names) (actions first e) (actions other (behind first e))) (actions rest (behind other (behind first e))) (action_of (Store s.value name at s.ty) g) (s.found (behind other (behind first e)) ws g vis);
          }
          one (Affine there false at) s = tt
          one Other s = tt
  stores_found (Does line p rest) acc a =
      Each-append (FoundIn (Does line p rest) acc) (use_of name p acc) (uses name rest (acc ++ Behind p ∷ [])) (own_found line p rest acc)
      (lift (Does line p rest) rest acc (Behind p) (λ hs act f e ws g vis. contains_tail (action_of p e) (act g) (actions rest (after_plain p e)) (f (after_plain p e) ws g vis)) (uses name rest (acc ++ Behind p ∷ [])) (stores_found rest (acc ++ Behind p ∷ []) a.1))
