-- A store among the uses of a text stands at a place; what holds of each statement holds of it at each visit, and its action is
-- in the list.
use Rattle.std.proofs.Common.{◌≡◌, ℕ, zero, suc, ◌<◌, Bool, true, false, cond, List, [], ◌∷◌, ◌++◌, length, get_or, ℤ, refl, sym, ◌∙◌, ap, subst, arith, append_assoc, append-nil, length-append}
use Rattle.std.specs.Prelude.{flat_map, Contains}
use Rattle.constraint_set.specs.Lists.{Each}
use Rattle.constraint_set.proofs.Steps.{Each-append, Each-weaken}
use Rattle.affine_ast.specs.declared.name.Name.{Name}
use Rattle.affine_ast.specs.declared.types.Access.{Access}
use Rattle.affine_ast.specs.declared.types.MemrefType.{MemrefType}
use Rattle.affine_ast.specs.Names.{same_name}
use Rattle.affine_ast.specs.Nest.{Plain, Nest, Nothing, Loop, Branch, Does, Value, Load, Store, RawLoad, RawStore, Constant, Binary, Cast, Alloc, Dealloc, Start, Wait, Return}
use Rattle.direct_meaning.specs.Action.{Action}
use Rattle.direct_meaning.specs.Actions.{action_of, after_plain, behind, actions}
use Rattle.direct_meaning.specs.Pure.{AffineNest}
use Rattle.direct_meaning.specs.Static.{Env, knows, lower_of, upper_of, holds_at}
use Rattle.direct_meaning.specs.Turns.{turns}
use Rattle.boxes.specs.Every.{Every}
use Rattle.nest_domain.specs.Ways as ways
use Rattle.nest_domain.specs.Ways.{Header, Use, Affine, if_named, use_of, uses}
use Rattle.nest_domain.specs.Visits.{Visits}
use Rattle.nest_domain.proofs.Among.{turn_found}
use Rattle.placement_texts.specs.Each as text
use Rattle.placement_texts.specs.Spots.{Spot, Here, Behind, Inside, Other}
use Rattle.placement_regions.specs.Sites.{from_spot, way_to}

-- ---- the place of a store
module _ (m : Name) where
  pub record StoreAt (n : Nest) (acc there : List Header) (at : Access) : Type 0 where
    pub place : Spot
    pub line : ℕ
    pub value : Name
    pub named : Name
    pub ty : MemrefType
    pub rest : Nest
    pub way : there ≡ acc ++ way_to place n
    pub is : from_spot place n ≡ Does line (Store value named at ty) rest
    pub same : same_name m named ≡ true

  abbrev pub AtPlace : Nest → List Header → Use → Type 0
  AtPlace n acc (Affine there true at) = StoreAt n acc there at
  AtPlace n acc (Affine there false at) = Unit {0}
  AtPlace n acc ways.Other = Unit {0}

  -- from what stands further in, or behind
  lift : (n n' : Nest) (acc acc' hs : List Header) (into : Spot → Spot) → acc' ≡ acc ++ hs → ((s : Spot) → way_to (into s) n ≡ hs ++ way_to s n') → ((s : Spot) → from_spot (into s) n ≡ from_spot s n')
      → (us : List Use) → Each (AtPlace n' acc') us → Each (AtPlace n acc) us
  lift n n' acc acc' hs into longer way is us k = Each-weaken (AtPlace n' acc') (AtPlace n acc) one us k
    where
      one : (u : Use) → AtPlace n' acc' u → AtPlace n acc u
      one (Affine there true at) h = record {
        place = into h.place;
        line = h.line;
        value = h.value;
        named = h.named;
        ty = h.ty;
        rest = h.rest;
        way = h.way ∙ ap (λ a. a ++ way_to h.place n') longer ∙ append_assoc acc hs (way_to h.place n') ∙ ap (λ w. acc ++ w) (sym (way h.place));
        is = is h.place ∙ h.is;
        same = h.same;
      }
      one (Affine there false at) h = tt
      one ways.Other h = tt

  if_placed : (n : Nest) (acc : List Header) (x : Name) (u : Use) → (same_name m x ≡ true → AtPlace n acc u) → Each (AtPlace n acc) (if_named m x u)
  if_placed n acc x u k = by (same_name m x) refl
    where
      by : (b : Bool) → same_name m x ≡ b → Each (AtPlace n acc) (cond b (u ∷ []) [])
      by true e = (k e, tt)
      by false e = tt

  own_placed : (line : ℕ) (p : Plain) (rest : Nest) (acc : List Header) → Each (AtPlace (Does line p rest) acc) (use_of m p acc)
  own_placed line (Value r pick at) rest acc = tt
  own_placed line (Load r n at ty) rest acc = if_placed (Does line (Load r n at ty) rest) acc n (Affine acc false at) (λ e. tt)
  own_placed line (Store x n at ty) rest acc =
      if_placed (Does line (Store x n at ty) rest) acc n (Affine acc true at) (λ e. record { place = Here; line = line; value = x; named = n; ty = ty; rest = rest; way = sym (append-nil acc); is = refl; same = e })
  own_placed line (RawLoad r n at ty) rest acc = if_placed (Does line (RawLoad r n at ty) rest) acc n ways.Other (λ e. tt)
  own_placed line (RawStore x n at ty) rest acc = if_placed (Does line (RawStore x n at ty) rest) acc n ways.Other (λ e. tt)
  own_placed line (Constant r z ty) rest acc = tt
  own_placed line (Binary r op x y ty) rest acc = tt
  own_placed line (Cast r kind x from to) rest acc = tt
  own_placed line (Alloc r ty) rest acc = tt
  own_placed line (Dealloc n ty) rest acc = if_placed (Does line (Dealloc n ty) rest) acc n ways.Other (λ e. tt)
  own_placed line (Start x x_at y y_at t t_at n stride types) rest acc =
      let nest = Does line (Start x x_at y y_at t t_at n stride types) rest in
      Each-append (AtPlace nest acc) (if_named m x ways.Other) (if_named m y ways.Other ++ if_named m t ways.Other) (if_placed nest acc x ways.Other (λ e. tt))
      (Each-append (AtPlace nest acc) (if_named m y ways.Other) (if_named m t ways.Other) (if_placed nest acc y ways.Other (λ e. tt)) (if_placed nest acc t ways.Other (λ e. tt)))
  own_placed line (Wait t at n ty) rest acc = if_placed (Does line (Wait t at n ty) rest) acc t ways.Other (λ e. tt)
  own_placed line Return rest acc = tt

  pub uses_placed : (n : Nest) (acc : List Header) → Each (AtPlace n acc) (uses m n acc)
  unfolding uses
  uses_placed Nothing acc = tt
  uses_placed (Loop line v l u s body rest) acc =
      let n = Loop line v l u s body rest in
      Each-append (AtPlace n acc) (uses m body (acc ++ ways.Round v l u s ∷ [])) (uses m rest (acc ++ ways.Past body ∷ []))
      (lift n body acc (acc ++ ways.Round v l u s ∷ []) (ways.Round v l u s ∷ []) Inside refl (λ s. refl) (λ s. refl) (uses m body (acc ++ ways.Round v l u s ∷ [])) (uses_placed body (acc ++ ways.Round v l u s ∷ [])))
      (lift n rest acc (acc ++ ways.Past body ∷ []) (ways.Past body ∷ []) Behind refl (λ s. refl) (λ s. refl) (uses m rest (acc ++ ways.Past body ∷ [])) (uses_placed rest (acc ++ ways.Past body ∷ [])))
  uses_placed (Branch line set names first has other rest) acc =
      let n = Branch line set names first has other rest in
      let a = acc ++ ways.Given set names ∷ [] in
      let b = acc ++ ways.Except set names first ∷ [] in
      let c = (acc ++ ways.Past first ∷ []) ++ ways.Past other ∷ [] in
      Each-append (AtPlace n acc) (uses m first a) (uses m other b ++ uses m rest c) (lift n first acc a (ways.Given set names ∷ []) Inside refl (λ s. refl) (λ s. refl) (uses m first a) (uses_placed first a))
      (Each-append (AtPlace n acc) (uses m other b) (uses m rest c) (lift n other acc b (ways.Except set names first ∷ []) Other refl (λ s. refl) (λ s. refl) (uses m other b) (uses_placed other b))
      (lift n rest acc c (ways.Past first ∷ ways.Past other ∷ []) Behind (append_assoc acc (ways.Past first ∷ []) (ways.Past other ∷ [])) (λ s. refl) (λ s. refl) (uses m rest c) (uses_placed rest c)))
  uses_placed (Does line p rest) acc =
      let n = Does line p rest in
      let a = acc ++ ways.Behind p ∷ [] in
      Each-append (AtPlace n acc) (use_of m p acc) (uses m rest a) (own_placed line p rest acc) (lift n rest acc a (ways.Behind p ∷ []) Behind refl (λ s. refl) (λ s. refl) (uses m rest a) (uses_placed rest a))

-- ---- at a visit
every_contains : (P : ℤ → Type 0) (xs : List ℤ) (x : ℤ) → Every P xs → Contains xs x → P x
every_contains P [] x h c = absurd (let k = c.1 in omega (arith, k))
every_contains P (y ∷ xs) x h c = by c.0 c.1 c.2 (λ j k e. every_contains P xs x h.1 (j, k, e))
  where
    by : (k : ℕ) → k < length (y ∷ xs) → get_or (y ∷ xs) k x ≡ x → ((j : ℕ) → j < length xs → get_or xs j x ≡ x → P x) → P x
    by zero less e more = subst P e h.0
    by (suc k) less e more = more k (omega (arith, less)) e

contains_head : {A : Type 0} (x : A) (xs : List A) → Contains (x ∷ xs) x
contains_head x xs = (0, (omega arith), refl)

contains_tail : {A : Type 0} (x y : A) (xs : List A) → Contains xs y → Contains (x ∷ xs) y
contains_tail x y xs h = (suc h.0, (let k = h.1 in omega (arith, k)), h.2)

contains_right : {A : Type 0} (xs ys : List A) (y : A) → Contains ys y → Contains (xs ++ ys) y
contains_right [] ys y h = h
contains_right (x ∷ xs) ys y h = contains_tail x y (xs ++ ys) (contains_right xs ys y h)

contains_left : {A : Type 0} (xs ys : List A) (y : A) → Contains xs y → Contains (xs ++ ys) y
contains_left xs ys y h = (h.0, (let k = h.1 in omega (arith, k, length-append xs ys)), front xs h.0 h.1 ∙ h.2)
  where
    front : (xs : List _) (k : ℕ) → k < length xs → get_or (xs ++ ys) k y ≡ get_or xs k y
    front [] k h = absurd (omega arith)
    front (x ∷ xs) zero h = refl
    front (x ∷ xs) (suc k) h = front xs k (omega (arith, h))

contains_flat : {A B : Type 0} (f : A → List B) (xs : List A) (x : A) (y : B) → Contains xs x → Contains (f x) y → Contains (flat_map f xs) y
contains_flat f [] x y h k = absurd (let l = h.1 in omega (arith, l))
contains_flat {B = B} f (a ∷ xs) x y h k = by h.0 h.1 h.2 (λ j l e. contains_flat f xs x y (j, l, e) k)
  where
    by : (n : ℕ) → n < length (a ∷ xs) → get_or (a ∷ xs) n x ≡ x → ((j : ℕ) → j < length xs → get_or xs j x ≡ x → Contains (flat_map f xs) y) → Contains (f a ++ flat_map f xs) y
    by zero l e more = contains_left (f a) (flat_map f xs) y (subst (λ z. Contains (f z) y) (sym e) k)
    by (suc n) l e more = contains_right (f a) (flat_map f xs) y (more n (omega (arith, l)) e)

chosen : (c d : Bool) (xs ys : List Action) (y : Action) → c ≡ d → Contains (cond d xs ys) y → Contains (cond c xs ys) y
chosen c d xs ys y e h = subst (λ b. Contains (cond b xs ys) y) (sym e) h

module _ (line : ℕ) (q : Plain) (more : Nest) where
  -- which statement stands there
  abbrev q_of : Nest → Plain
  q_of (Does l x rest) = x
  q_of n = q

  -- what holds of each statement holds of it
  pub each_there : (P : Plain → Env → Type 0) (s : Spot) (n : Nest) (e : Env) (ts : List ℤ) (f : Env) → AffineNest n → text.Each P n e → from_spot s n ≡ Does line q more → Visits (way_to s n) e ts f → P q f
  each_there P Here (Does l x rest) e ts f a h is w = subst (λ y. P y f) (ap q_of is) (subst (P x) w.1 h.0)
  each_there P Here Nothing e ts f a h is w = absurd (let z : ⊥ = cc in z)
  each_there P Here (Loop l v lo u st body rest) e ts f a h is w = absurd (let z : ⊥ = cc in z)
  each_there P Here (Branch l set ns first has other rest) e ts f a h is w = absurd (let z : ⊥ = cc in z)
  each_there P (Behind s) Nothing e ts f a h is w = absurd (let z : ⊥ = cc in z)
  each_there P (Behind s) (Loop l v lo u st body rest) e ts f a h is w = each_there P s rest (behind body e) ts f a.4 h.1 is w
  each_there P (Behind s) (Branch l set ns first has other rest) e ts f a h is w = each_there P s rest (behind other (behind first e)) ts f a.2 h.2 is w
  each_there P (Behind s) (Does l x rest) e ts f a h is w = each_there P s rest (after_plain x e) ts f a.1 h.1 is w
  each_there P (Inside s) Nothing e ts f a h is w = absurd (let z : ⊥ = cc in z)
  each_there P (Inside s) (Loop l v lo u st body rest) e [] f a h is w = absurd w
  each_there P (Inside s) (Loop l v lo u st body rest) e (t ∷ ts) f a h is w =
      each_there P s body (knows e v t) ts f a.3 (every_contains (λ z. text.Each P body (knows e v z)) (turns (lower_of e lo) (upper_of e u) st) t h.0 (turn_found w.0.0 (lower_of e lo) (upper_of e u) st t a.2 w.0.1 w.0.2)) is w.1
  each_there P (Inside s) (Branch l set ns first has other rest) e ts f a h is w = each_there P s first e ts f a.0 (h.0 w.0) is w.1
  each_there P (Inside s) (Does l x rest) e ts f a h is w = absurd (let z : ⊥ = cc in z)
  each_there P (Other s) Nothing e ts f a h is w = absurd (let z : ⊥ = cc in z)
  each_there P (Other s) (Loop l v lo u st body rest) e ts f a h is w = absurd (let z : ⊥ = cc in z)
  each_there P (Other s) (Branch l set ns first has other rest) e ts f a h is w = each_there P s other (behind first e) ts f a.1 (h.1 w.0) is w.1
  each_there P (Other s) (Does l x rest) e ts f a h is w = absurd (let z : ⊥ = cc in z)

  -- and its action is in the list
  pub action_there : (s : Spot) (n : Nest) (e : Env) (ts : List ℤ) (f : Env) → AffineNest n → from_spot s n ≡ Does line q more → Visits (way_to s n) e ts f → Contains (actions n e) (action_of q f)
  unfolding actions
  action_there Here (Does l x rest) e ts f a is w =
      subst (λ y. Contains (action_of x e ∷ actions rest (after_plain x e)) (action_of y f)) (ap q_of is) (subst (λ g. Contains (action_of x e ∷ actions rest (after_plain x e)) (action_of x g)) w.1 (contains_head (action_of x e) (actions rest (after_plain x e))))
  action_there Here Nothing e ts f a is w = absurd (let z : ⊥ = cc in z)
  action_there Here (Loop l v lo u st body rest) e ts f a is w = absurd (let z : ⊥ = cc in z)
  action_there Here (Branch l set ns first has other rest) e ts f a is w = absurd (let z : ⊥ = cc in z)
  action_there (Behind s) Nothing e ts f a is w = absurd (let z : ⊥ = cc in z)
  action_there (Behind s) (Loop l v lo u st body rest) e ts f a is w =
      contains_right (flat_map (λ t. actions body (knows e v t)) (turns (lower_of e lo) (upper_of e u) st)) (actions rest (behind body e)) (action_of q f) (action_there s rest (behind body e) ts f a.4 is w)
  action_there (Behind s) (Branch l set ns first has other rest) e ts f a is w =
      contains_right (cond (holds_at e set ns) (actions first e) (actions other (behind first e))) (actions rest (behind other (behind first e))) (action_of q f) (action_there s rest (behind other (behind first e)) ts f a.2 is w)
  action_there (Behind s) (Does l x rest) e ts f a is w = contains_tail (action_of x e) (action_of q f) (actions rest (after_plain x e)) (action_there s rest (after_plain x e) ts f a.1 is w)
  action_there (Inside s) Nothing e ts f a is w = absurd (let z : ⊥ = cc in z)
  action_there (Inside s) (Loop l v lo u st body rest) e [] f a is w = absurd w
  action_there (Inside s) (Loop l v lo u st body rest) e (t ∷ ts) f a is w =
      contains_left (flat_map (λ t. actions body (knows e v t)) (turns (lower_of e lo) (upper_of e u) st)) (actions rest (behind body e)) (action_of q f)
      (contains_flat (λ t. actions body (knows e v t)) (turns (lower_of e lo) (upper_of e u) st) t (action_of q f) (turn_found w.0.0 (lower_of e lo) (upper_of e u) st t a.2 w.0.1 w.0.2) (action_there s body (knows e v t) ts f a.3 is w.1))
  action_there (Inside s) (Branch l set ns first has other rest) e ts f a is w =
      contains_left (cond (holds_at e set ns) (actions first e) (actions other (behind first e))) (actions rest (behind other (behind first e))) (action_of q f)
      (chosen (holds_at e set ns) true (actions first e) (actions other (behind first e)) (action_of q f) w.0 (action_there s first e ts f a.0 is w.1))
  action_there (Inside s) (Does l x rest) e ts f a is w = absurd (let z : ⊥ = cc in z)
  action_there (Other s) Nothing e ts f a is w = absurd (let z : ⊥ = cc in z)
  action_there (Other s) (Loop l v lo u st body rest) e ts f a is w = absurd (let z : ⊥ = cc in z)
  action_there (Other s) (Branch l set ns first has other rest) e ts f a is w =
      contains_left (cond (holds_at e set ns) (actions first e) (actions other (behind first e))) (actions rest (behind other (behind first e))) (action_of q f)
      (chosen (holds_at e set ns) false (actions first e) (actions other (behind first e)) (action_of q f) w.0 (action_there s other (behind first e) ts f a.1 is w.1))
  action_there (Other s) (Does l x rest) e ts f a is w = absurd (let z : ⊥ = cc in z)
