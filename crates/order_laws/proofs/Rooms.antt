-- Allocations and releases of a valid text alternate, and its starts fit.
use Rattle.std.proofs.Common.{◌≡◌, ◌⊎◌, inl, inr, ⊎_elim, ℕ, suc, ◌+◌, ◌<◌, ◌≤◌, ℤ, ◌≤ℤ◌, ◌<ℤ◌, Bool, true, false, List, [], ◌∷◌, ◌++◌, refl, sym, ap, ◌∙◌, subst, arith, eq-eqb, ne_eqb}
use Rattle.std.specs.Prelude.{◌&&◌, ◌||◌, not, nat_eq, flat_map, Option, Some, None, is_some, if◌then◌else◌}
use Rattle.std.proofs.lemmas.Bool.{and_parts}
use native.Mathlib.Decide.{ℕ_discrete, dec_le}
use Rattle.affine_ast.specs.declared.name.Name.{Name}
use Rattle.affine_ast.specs.declared.types.Access.{Access}
use Rattle.affine_ast.specs.declared.types.MemrefType.{MemrefType}
use Rattle.affine_ast.specs.declared.types.Scalar.TheVariants as scalar
use Rattle.affine_ast.specs.Names.{same_name, put}
use Rattle.affine_ast.proofs.Names.{put-same, put-other, same_name-eq, same_name-refl, same_name-is}
use Rattle.affine_ast.specs.Nest.{Plain, Nest, Nothing, Loop, Branch, Does, Value, Load, Store, RawLoad, RawStore, Constant, Binary, Cast, Alloc, Dealloc, Start, Wait, Return}
use Rattle.affine_ast.specs.Rules.{is_in, is_memref_of, binding_is_memref_of, is_dealloc_of, deallocs, own_deallocs, is_live, ends_in_spaces, is_count, constant_of, stride_well, same_element}
use Rattle.affine_ast.specs.Scope.{Allocation, Scope, Totals, Around, counted, in_loop, in_condition, with_totals, behind_plain}
use Rattle.affine_ast.specs.Sizes.{product}
use Rattle.affine_ast.specs.Validity.{Passed, then_told, told, rule_of_plain, rule_of_loop, rule_of_condition}
use Rattle.bus_model.specs.declared.step.FaultKind.{FaultKind}
use Rattle.bus_model.specs.declared.transfer.Transfer.{Transfer}
use Rattle.direct_meaning.specs.Turns.{turns}
use Rattle.direct_meaning.specs.Action.{Home, SlowMemref, FastMemref, TagMemref, Action, Allocates, AllocatesTags, Starts, Faults}
use Rattle.direct_meaning.specs.Actions.{half_cells, is_fast, dealloc_of, layout_of, wait_of, action_of, after_plain, behind, actions}
use Rattle.direct_meaning.specs.Static.{Env, knows, lower_of, upper_of, holds_at, tag_of}
use Rattle.direct_meaning.proofs.WorkLaws.{Every, Between, all_between}
use Rattle.valid_laws.specs.Safe.{SafePlain, SafeNest}
use Rattle.valid_laws.proofs.Passing.{Holds, judged_passed, then_passed, plain_holds, loop_holds}
use Rattle.valid_laws.proofs.SafeHolds.{plain_stands, turn_stands}
use Rattle.valid_laws.proofs.Scoped.{ScopeStands, type_same}
use Rattle.valid_laws.proofs.Small.{small_between}
use Rattle.order_meaning.specs.Orderly.{Rooms, with_room, FitsTransfer, rooms_after}
use Rattle.order_meaning.proofs.Flights.{both_ways, if_true, if_false}
use Rattle.order_meaning.proofs.Roomy.{room_same, room_other}
use Rattle.order_laws.proofs.Memrefs.{behind_name, kept_name, HomeOk, Homes, fast_home, slow_home, home_along, homes_behind, homes_turn, homes_kept}
use Rattle.order_laws.proofs.Starts.{EndFits, layout_fits, start_is, IsTag}
use Rattle.order_laws.proofs.Deallocs.{which_dealloc, IsAllocated, OwnAll, NoneIn, none_own, own_loop, own_branch, own_plain, own_of_alloc}

-- ---- a list's rooms

abbrev pub rooms_all : Rooms → List Action → Rooms
rooms_all rooms [] = rooms
rooms_all rooms (a ∷ more) = rooms_all (rooms_after rooms a) more

-- what an action is known to be, but for the release of a start's tag
abbrev pub IsRoomed : ℕ → Rooms → Action → Type 0
IsRoomed slow rooms (Allocates number element sizes) = rooms number ≡ None
IsRoomed slow rooms (Starts t) = FitsTransfer slow rooms t
IsRoomed slow rooms a = Unit {0}

abbrev pub AllRoomed : ℕ → Rooms → List Action → Type 0
AllRoomed slow rooms [] = Unit {0}
AllRoomed slow rooms (a ∷ more) = IsRoomed slow rooms a × AllRoomed slow (rooms_after rooms a) more

rooms_append : (rooms : Rooms) (xs ys : List Action) → rooms_all rooms (xs ++ ys) ≡ rooms_all (rooms_all rooms xs) ys
rooms_append rooms [] ys = refl
rooms_append rooms (a ∷ xs) ys = rooms_append (rooms_after rooms a) xs ys

roomed_append : (slow : ℕ) (rooms : Rooms) (xs ys : List Action) → AllRoomed slow rooms xs → AllRoomed slow (rooms_all rooms xs) ys → AllRoomed slow rooms (xs ++ ys)
roomed_append slow rooms [] ys h k = k
roomed_append slow rooms (a ∷ xs) ys h k = (h.0, roomed_append slow (rooms_after rooms a) xs ys h.1 k)

-- a list that leaves the rooms as they were
pub record Closed (slow : ℕ) (rooms : Rooms) (xs : List Action) : Type 0 where
  pub all : AllRoomed slow rooms xs
  pub same : rooms_all rooms xs ≡ rooms

closed_turns : (slow : ℕ) (rooms : Rooms) (f : ℤ → List Action) (a b : ℤ) → ((z : ℤ) → a ≤ℤ z → z <ℤ b → Closed slow rooms (f z)) → (ts : List ℤ) → Every (Between a b) ts → Closed slow rooms (flat_map f ts)
closed_turns slow rooms f a b each [] h = record { all = tt; same = refl }
closed_turns slow rooms f a b each (t ∷ ts) h =
    let one = each t h.0.0 h.0.1 in
    let more = closed_turns slow rooms f a b each ts h.1 in
    record {
      all = roomed_append slow rooms (f t) (flat_map f ts) one.all (subst (λ r. AllRoomed slow r (flat_map f ts)) (sym one.same) more.all);
      same = rooms_append rooms (f t) (flat_map f ts) ∙ ap (λ r. rooms_all r (flat_map f ts)) one.same ∙ more.same;
    }

-- ---- what a region releases

abbrev pub frees : Option Home → ℕ → Bool
frees (Some (FastMemref j)) k = nat_eq j k
frees home k = false

abbrev pub frees_by : Plain → Env → ℕ → Bool
frees_by (Dealloc m ty) e k = frees (e.home m) k
frees_by p e k = false

-- whether the region itself releases a fast memref
abbrev pub gone : Nest → Env → ℕ → Bool
gone Nothing e k = false
gone (Loop line v l u s body rest) e k = gone rest (behind body e) k
gone (Branch line set names first has other rest) e k = gone rest (behind other (behind first e)) k
gone (Does line p rest) e k = frees_by p e k || gone rest (after_plain p e) k

pub or_true : (b : Bool) → (b || true) ≡ true
or_true true = refl
or_true false = refl

pub in_scope : (a : Around) (p : Plain) (r : Name) → (behind_plain p (counted a)).scope r ≡ a.scope r → is_in a.scope r ≡ true → is_in (behind_plain p (counted a)).scope r ≡ true
unfolding is_in
in_scope a p r q i = ap is_some q ∙ i

-- an allocation in scope, with its dealloc in the region, is released by it
gone_by_dealloc : (n : Nest) (a : Around) (t : Totals) (e : Env) (r : Name) (k : ℕ) → ScopeStands a.scope e → SafeNest n e → told n a ≡ Passed t → is_in a.scope r ≡ true → e.home r ≡ Some (FastMemref k) → 1 ≤ own_deallocs r n → gone n e k ≡ true
unfolding told own_deallocs
gone_by_dealloc Nothing a t e r k h safe q i home own = absurd (omega (arith, own))
gone_by_dealloc (Loop line x l u s body rest) a t e r k h safe q i home own =
    let j = judged_passed line (rule_of_loop (counted a) x l u s) _ t q in
    let p = then_passed (told body (in_loop x l u (counted a))) (λ t. told rest (with_totals t a)) t j.1 in
    gone_by_dealloc rest (with_totals p.0 a) t (behind body e) r k h safe.3 p.2 i home own
gone_by_dealloc (Branch line set names first has other rest) a t e r k h safe q i home own =
    let j = judged_passed line (rule_of_condition (counted a) set names) _ t q in
    let p = then_passed (told first (in_condition (counted a))) (λ t. then_told (told other (in_condition (with_totals t a))) (λ u. told rest (with_totals u a))) t j.1 in
    let w = then_passed (told other (in_condition (with_totals p.0 a))) (λ u. told rest (with_totals u a)) t p.2 in
    gone_by_dealloc rest (with_totals w.0 a) t (behind other (behind first e)) r k h safe.4 w.2 i home own
gone_by_dealloc (Does line p rest) a t e r k h safe q i home own =
    let j = judged_passed line (rule_of_plain (counted a) p rest) _ t q in
    let holds = plain_holds (counted a) p rest j.0 in
    let kept = kept_name a e p r (behind_name a e h r p rest holds) i in
    ⊎_elim
    (λ (z : is_dealloc_of r p ≡ 0). ap (λ b. frees_by p e k || b)
    (gone_by_dealloc rest (behind_plain p (counted a)) t (after_plain p e) r k (plain_stands a p rest e h holds safe.1) safe.2 j.1 (in_scope a p r kept.0 i) (kept.1 ∙ home) (omega (arith, own, z))) ∙ or_true (frees_by p e k))
    (λ (z : (ty : MemrefType) × (p ≡ Dealloc r ty)). ap (λ p. frees_by p e k || gone rest (after_plain p e) k) z.1 ∙ ap (λ o. frees o k || gone rest (after_plain (Dealloc r z.0) e) k) home ∙ ap (λ b. b || gone rest (after_plain (Dealloc r z.0) e) k) (eq-eqb k k refl))
    (which_dealloc r p)

-- what stands below the allocations of a region isn't released by it
home_behind : (p : Plain) (e : Env) (m : Name) (k : ℕ) → (after_plain p e).home m ≡ Some (FastMemref k) → (e.home m ≡ Some (FastMemref k)) ⊎ (e.fasts ≤ k)
unfolding after_plain
home_behind (Value r pick at) e m k h = inl h
home_behind (Load r x at ty) e m k h = inl h
home_behind (Store x y at ty) e m k h = inl h
home_behind (RawLoad r x at ty) e m k h = inl h
home_behind (RawStore x y at ty) e m k h = inl h
home_behind (Constant r z (scalar.Int element)) e m k h = inl h
home_behind (Constant r z scalar.Index) e m k h = inl h
home_behind (Binary r op x y ty) e m k h = inl h
home_behind (Cast r kind x from to) e m k h = inl h
home_behind (Alloc r ty) e m k h = by (is_fast ty) h
  where
    fast : (t : Bool) → same_name r m ≡ t → put e.home r (Some (FastMemref e.fasts)) m ≡ Some (FastMemref k) → (e.home m ≡ Some (FastMemref k)) ⊎ (e.fasts ≤ k)
    fast true t h = let q : Some (FastMemref e.fasts) ≡ Some (FastMemref k) = sym (put-same e.home r (Some (FastMemref e.fasts)) m t) ∙ h in let l : e.fasts ≡ k = cc in inr (omega (arith, l))
    fast false t h = inl (sym (put-other e.home r (Some (FastMemref e.fasts)) m t) ∙ h)

    tags : (t : Bool) → same_name r m ≡ t → put e.home r (Some (TagMemref e.tags)) m ≡ Some (FastMemref k) → (e.home m ≡ Some (FastMemref k)) ⊎ (e.fasts ≤ k)
    tags true t h = let q : Some (TagMemref e.tags) ≡ Some (FastMemref k) = sym (put-same e.home r (Some (TagMemref e.tags)) m t) ∙ h in absurd (let z : ⊥ = cc in z)
    tags false t h = inl (sym (put-other e.home r (Some (TagMemref e.tags)) m t) ∙ h)

    by : (t : Bool) → (if t then record e { home = put e.home r (Some (FastMemref e.fasts)); fasts = suc e.fasts } else record e { home = put e.home r (Some (TagMemref e.tags)); tags = e.tags + product ty.sizes }).home m ≡ Some (FastMemref k) → (e.home m ≡ Some (FastMemref k)) ⊎ (e.fasts ≤ k)
    by true h = fast (same_name r m) refl h
    by false h = tags (same_name r m) refl h
home_behind (Dealloc x ty) e m k h = inl h
home_behind (Start x xa y ya t ta n stride types) e m k h = inl h
home_behind (Wait t at n ty) e m k h = inl h
home_behind Return e m k h = inl h

fasts_rise : (p : Plain) (e : Env) → e.fasts ≤ (after_plain p e).fasts
unfolding after_plain
fasts_rise (Constant r z (scalar.Int element)) e = omega arith
fasts_rise (Constant r z scalar.Index) e = omega arith
fasts_rise (Alloc r ty) e = by (is_fast ty)
  where
    by : (t : Bool) → e.fasts ≤ (if t then record e { home = put e.home r (Some (FastMemref e.fasts)); fasts = suc e.fasts } else record e { home = put e.home r (Some (TagMemref e.tags)); tags = e.tags + product ty.sizes }).fasts
    by true = omega arith
    by false = omega arith
fasts_rise (Value r pick at) e = omega arith
fasts_rise (Load r x at ty) e = omega arith
fasts_rise (Store x y at ty) e = omega arith
fasts_rise (RawLoad r x at ty) e = omega arith
fasts_rise (RawStore x y at ty) e = omega arith
fasts_rise (Binary r op x y ty) e = omega arith
fasts_rise (Cast r kind x from to) e = omega arith
fasts_rise (Dealloc x ty) e = omega arith
fasts_rise (Start x xa y ya t ta n stride types) e = omega arith
fasts_rise (Wait t at n ty) e = omega arith
fasts_rise Return e = omega arith

abbrev pub Spared : ℕ → Env → Nest → Type 0
Spared bound e n = (m : Name) (k : ℕ) → e.home m ≡ Some (FastMemref k) → k < bound → deallocs m n ≡ 0

not_gone : (bound : ℕ) (n : Nest) (e : Env) (k : ℕ) → bound ≤ e.fasts → k < bound → Spared bound e n → gone n e k ≡ false
unfolding deallocs
not_gone bound Nothing e k b l h = refl
not_gone bound (Loop line v lo u s body rest) e k b l h = not_gone bound rest (behind body e) k (omega (arith, b)) l (λ m j q r. let c = h m j q r in omega (arith, c))
not_gone bound (Branch line set names first has other rest) e k b l h = not_gone bound rest (behind other (behind first e)) k (omega (arith, b)) l (λ m j q r. let c = h m j q r in omega (arith, c))
not_gone bound (Does line p rest) e k b l h =
    let rise = fasts_rise p e in
    let later = not_gone bound rest (after_plain p e) k (omega (arith, b, rise)) l (λ m j q r. ⊎_elim
    (λ (z : e.home m ≡ Some (FastMemref j)). let c = h m j z r in omega (arith, c))
    (λ (z : e.fasts ≤ j). absurd (omega (arith, z, r, b)))
    (home_behind p e m j q)) in
    (λ i. here p h i || later i)
  where
    one_if : Bool → ℕ
    one_if t = if t then 1 else 0

    freed : (m : Name) (o : Option Home) → e.home m ≡ o → ((j : ℕ) → e.home m ≡ Some (FastMemref j) → j < bound → ⊥) → frees o k ≡ false
    freed m None q no_such = refl
    freed m (Some (SlowMemref number first)) q no_such = refl
    freed m (Some (TagMemref first)) q no_such = refl
    freed m (Some (FastMemref j)) q no_such = ne_eqb j k (λ s. no_such j q (omega (arith, s, l)))

    here : (p : Plain) → Spared bound e (Does line p rest) → frees_by p e k ≡ false
    here (Dealloc m ty) h = freed m (e.home m) refl (λ j q r. let c = h m j q r in let one : is_dealloc_of m (Dealloc m ty) ≡ 1 = ap one_if (same_name-refl m) in omega (arith, c, one))
    here (Value r pick at) h = refl
    here (Load r x at ty) h = refl
    here (Store x y at ty) h = refl
    here (RawLoad r x at ty) h = refl
    here (RawStore x y at ty) h = refl
    here (Constant r z ty) h = refl
    here (Binary r op x y ty) h = refl
    here (Cast r kind x from to) h = refl
    here (Alloc r ty) h = refl
    here (Start x xa y ya t ta n stride types) h = refl
    here (Wait t at n ty) h = refl
    here Return h = refl

-- ---- one statement

bound_new : (s : Scope) (r : Name) (ty : MemrefType) → is_in (put s r (Some (Allocation ty))) r ≡ true
unfolding is_in
bound_new s r ty = ap is_some (put-same s r (Some (Allocation ty)) r (same_name-refl r))

fast_new : (e : Env) (r : Name) (ty : MemrefType) → is_fast ty ≡ true → (after_plain (Alloc r ty) e).home r ≡ Some (FastMemref e.fasts)
unfolding after_plain
fast_new e r ty t = ap (λ b. (if b then record e { home = put e.home r (Some (FastMemref e.fasts)); fasts = suc e.fasts } else record e { home = put e.home r (Some (TagMemref e.tags)); tags = e.tags + product ty.sizes }).home r) t ∙ put-same e.home r (Some (FastMemref e.fasts)) r (same_name-refl r)

same_made : (a b : ℕ) → Some (FastMemref a) ≡ Some (FastMemref b) → a ≡ b
same_made a b e = cc

tag_made : (a b : ℕ) → Some (TagMemref a) ≡ Some (FastMemref b) → ⊥
tag_made a b e = cc

pub not_true : (b : Bool) → not b ≡ true → b ≡ false
not_true true e = absurd (let z : ⊥ = cc in z)
not_true false e = refl

-- what a statement's action is, and the rooms behind it
pub record Stepped (slow : ℕ) (rooms : Rooms) (a : Around) (e : Env) (p : Plain) (later : ℕ → Bool) : Type 0 where
  pub roomed : IsRoomed slow rooms (action_of p e)
  pub homes : Homes slow (rooms_after rooms (action_of p e)) (behind_plain p (counted a)).scope (behind_plain p (counted a)).released (after_plain p e)
  pub same : (k : ℕ) → later k ≡ false → rooms_after rooms (action_of p e) k ≡ (if frees_by p e k then None else rooms k)

-- what a dealloc of a memref is
record Freed (slow : ℕ) (rooms : Rooms) (scope : Scope) (released : Name → Bool) (e : Env) (x : Action) (o : Option Home) : Type 0 where
  roomed : IsRoomed slow rooms x
  homes : Homes slow (rooms_after rooms x) scope released e
  same : (j : ℕ) → rooms_after rooms x j ≡ (if frees o j then None else rooms j)

-- what an allocation is
record Made (slow : ℕ) (rooms : Rooms) (scope : Scope) (released : Name → Bool) (later : ℕ → Bool) (x : Action) (e : Env) : Type 0 where
  roomed : IsRoomed slow rooms x
  homes : Homes slow (rooms_after rooms x) scope released e
  same : (j : ℕ) → later j ≡ false → rooms_after rooms x j ≡ rooms j

-- neither an allocation nor a dealloc
abbrev pub is_quiet : Plain → Bool
is_quiet (Alloc r ty) = false
is_quiet (Dealloc m ty) = false
is_quiet p = true

module _ (slow : ℕ) (rooms : Rooms) (a : Around) (e : Env) (stands : ScopeStands a.scope e) (h : Homes slow rooms a.scope a.released e) (rest : Nest) where
  abbrev IsQuiet : Action → Type 0
  IsQuiet x = IsRoomed slow rooms x × (rooms_after rooms x ≡ rooms)

  -- an end of a transfer
  pub end_fits : (m : Name) (ty : MemrefType) → is_memref_of a.scope m ty ≡ true → a.released m ≡ false → EndFits slow rooms (e.home m) ty
  unfolding is_memref_of
  end_fits m ty is live = record {
    slow_end = λ j first q. slow_home slow rooms e.fasts j first (a.scope m) (a.released m) ty (subst (HomeOk slow rooms e.fasts (a.scope m) (a.released m)) q (h.each m)) is;
    fast_end = λ k q.
        let r = fast_home slow rooms e.fasts k (a.scope m) (a.released m) (subst (HomeOk slow rooms e.fasts (a.scope m) (a.released m)) q (h.each m)) in
        r.room live ∙ ap (λ ns. Some (half_cells ns)) (type_same r.ty ty (ap (λ b. binding_is_memref_of b ty) (sym r.bound) ∙ is)).sizes;
  }

  -- a start's action: a fault, or a transfer that fits, with a tag of its allocation
  pub start_action : (P : Action → Type 0) → ((k : FaultKind) → P (Faults k)) → (x : Name) (xa : Access) (y : Name) (ya : Access) (t : Name) (ta : Access) (n : Name) (stride : Option (Name × Name)) (types : List MemrefType)
      → Holds (counted a) (Start x xa y ya t ta n stride types) rest → SafePlain e (Start x xa y ya t ta n stride types)
      → ((u : Transfer) → FitsTransfer slow rooms u → (ty : MemrefType) → is_memref_of a.scope t ty ≡ true → a.released t ≡ false → IsTag (e.home t) (product ty.sizes) u.tag → P (Starts u))
      → P (action_of (Start x xa y ya t ta n stride types) e)
  unfolding action_of
  start_action P fault x xa y ya t ta n stride (x_ty ∷ y_ty ∷ t_ty ∷ []) k safe start =
      let t1 = and_parts (is_memref_of a.scope x x_ty) (is_memref_of a.scope y y_ty && (is_memref_of a.scope t t_ty && same_element x_ty.element y_ty.element)) k.types in
      let t2 = and_parts (is_memref_of a.scope y y_ty) (is_memref_of a.scope t t_ty && same_element x_ty.element y_ty.element) t1.1 in
      let t3 = and_parts (is_memref_of a.scope t t_ty) (same_element x_ty.element y_ty.element) t2.1 in
      let m1 = and_parts (ends_in_spaces (x_ty ∷ y_ty ∷ t_ty ∷ [])) (is_count (constant_of a.scope n) && (stride_well a.scope stride && (is_live a x && (is_live a y && is_live a t)))) k.spaces in
      let m2 = and_parts (is_count (constant_of a.scope n)) (stride_well a.scope stride && (is_live a x && (is_live a y && is_live a t))) m1.1 in
      let m3 = and_parts (stride_well a.scope stride) (is_live a x && (is_live a y && is_live a t)) m2.1 in
      let m4 = and_parts (is_live a x) (is_live a y && is_live a t) m3.1 in
      let m5 = and_parts (is_live a y) (is_live a t) m4.1 in
      start_is slow rooms (e.home t) (product t_ty.sizes) P fault (λ u f g. start u f t_ty t3.0 (not_true (a.released t) m5.1) g) (layout_of e n stride) (layout_fits e n stride safe.1 safe.2) e x xa y ya t ta x_ty y_ty t_ty refl refl
      (end_fits x x_ty t1.0 (not_true (a.released x) m4.0)) (end_fits y y_ty t2.0 (not_true (a.released y) m5.0))
  start_action P fault x xa y ya t ta n stride [] k safe start = absurd safe.0
  start_action P fault x xa y ya t ta n stride (x_ty ∷ []) k safe start = absurd safe.0
  start_action P fault x xa y ya t ta n stride (x_ty ∷ y_ty ∷ []) k safe start = absurd safe.0
  start_action P fault x xa y ya t ta n stride (x_ty ∷ y_ty ∷ t_ty ∷ other ∷ more) k safe start = absurd safe.0

  quiet_wait : (o : Option ℕ) (count : ℕ) → IsQuiet (wait_of o count)
  quiet_wait (Some tag) count = (tt, refl)
  quiet_wait None count = (tt, refl)

  quiet_action : (p : Plain) → Holds (counted a) p rest → SafePlain e p → is_quiet p ≡ true → IsQuiet (action_of p e)
  unfolding action_of
  quiet_action (Value r pick at) k safe q = (tt, refl)
  quiet_action (Load r x at ty) k safe q = (tt, refl)
  quiet_action (Store x y at ty) k safe q = (tt, refl)
  quiet_action (RawLoad r x at ty) k safe q = (tt, refl)
  quiet_action (RawStore x y at ty) k safe q = (tt, refl)
  quiet_action (Constant r z (scalar.Int element)) k safe q = (tt, refl)
  quiet_action (Constant r z scalar.Index) k safe q = (tt, refl)
  quiet_action (Binary r op x y ty) k safe q = (tt, refl)
  quiet_action (Cast r kind x from to) k safe q = (tt, refl)
  quiet_action (Alloc r ty) k safe q = absurd (let z : ⊥ = cc in z)
  quiet_action (Dealloc m ty) k safe q = absurd (let z : ⊥ = cc in z)
  quiet_action (Start x xa y ya t ta n stride types) k safe q = start_action IsQuiet (λ k. (tt, refl)) x xa y ya t ta n stride types k safe (λ u f ty is live g. (f, refl))
  quiet_action (Wait t at n ty) k safe q = quiet_wait (tag_of e t at ty) _
  quiet_action Return k safe q = (tt, refl)

  quiet_fasts : (p : Plain) → is_quiet p ≡ true → (after_plain p e).fasts ≡ e.fasts
  unfolding after_plain
  quiet_fasts (Value r pick at) q = refl
  quiet_fasts (Load r x at ty) q = refl
  quiet_fasts (Store x y at ty) q = refl
  quiet_fasts (RawLoad r x at ty) q = refl
  quiet_fasts (RawStore x y at ty) q = refl
  quiet_fasts (Constant r z (scalar.Int element)) q = refl
  quiet_fasts (Constant r z scalar.Index) q = refl
  quiet_fasts (Binary r op x y ty) q = refl
  quiet_fasts (Cast r kind x from to) q = refl
  quiet_fasts (Alloc r ty) q = absurd (let z : ⊥ = cc in z)
  quiet_fasts (Dealloc m ty) q = absurd (let z : ⊥ = cc in z)
  quiet_fasts (Start x xa y ya t ta n stride types) q = refl
  quiet_fasts (Wait t at n ty) q = refl
  quiet_fasts Return q = refl

  quiet_released : (p : Plain) → is_quiet p ≡ true → (behind_plain p (counted a)).released ≡ a.released
  quiet_released (Value r pick at) q = refl
  quiet_released (Load r x at ty) q = refl
  quiet_released (Store x y at ty) q = refl
  quiet_released (RawLoad r x at ty) q = refl
  quiet_released (RawStore x y at ty) q = refl
  quiet_released (Constant r z ty) q = refl
  quiet_released (Binary r op x y ty) q = refl
  quiet_released (Cast r kind x from to) q = refl
  quiet_released (Alloc r ty) q = absurd (let z : ⊥ = cc in z)
  quiet_released (Dealloc m ty) q = absurd (let z : ⊥ = cc in z)
  quiet_released (Start x xa y ya t ta n stride types) q = refl
  quiet_released (Wait t at n ty) q = refl
  quiet_released Return q = refl

  quiet_frees : (p : Plain) (k : ℕ) → is_quiet p ≡ true → frees_by p e k ≡ false
  quiet_frees (Dealloc m ty) k q = absurd (let z : ⊥ = cc in z)
  quiet_frees (Value r pick at) k q = refl
  quiet_frees (Load r x at ty) k q = refl
  quiet_frees (Store x y at ty) k q = refl
  quiet_frees (RawLoad r x at ty) k q = refl
  quiet_frees (RawStore x y at ty) k q = refl
  quiet_frees (Constant r z ty) k q = refl
  quiet_frees (Binary r op x y ty) k q = refl
  quiet_frees (Cast r kind x from to) k q = refl
  quiet_frees (Alloc r ty) k q = refl
  quiet_frees (Start x xa y ya t ta n stride types) k q = refl
  quiet_frees (Wait t at n ty) k q = refl
  quiet_frees Return k q = refl

  quiet_step : (p : Plain) (later : ℕ → Bool) → Holds (counted a) p rest → SafePlain e p → is_quiet p ≡ true → Stepped slow rooms a e p later
  quiet_step p later k safe q =
      let x = quiet_action p k safe q in
      let kept = homes_kept slow rooms a e stands h p rest k rooms a.released (λ m ty r. let z : is_quiet (Alloc m ty) ≡ true = subst (λ p. is_quiet p ≡ true) r q in absurd (both_ways (is_quiet (Alloc m ty)) z refl)) (quiet_fasts p q) (λ m r. r) (λ m j r s. refl) h.fresh in
      record {
        roomed = x.0;
        homes = subst (λ (s : Rooms × (Name → Bool)). Homes slow s.0 (behind_plain p (counted a)).scope s.1 (after_plain p e)) (λ i. (sym x.1 i, sym (quiet_released p q) i)) kept;
        same = λ j _. (λ i. x.1 i j) ∙ sym (if_false (frees_by p e j) None (rooms j) (quiet_frees p j q));
      }

  -- a dealloc
  freed_step : (m : Name) (ty : MemrefType) (later : ℕ → Bool) → Holds (counted a) (Dealloc m ty) rest → Stepped slow rooms a e (Dealloc m ty) later
  unfolding action_of after_plain
  freed_step m ty later k =
      let f = by (e.home m) refl in
      record { roomed = f.roomed; homes = f.homes; same = λ j _. f.same j }
    where
      released' : Name → Bool
      released' = put a.released m true

      still : (n : Name) → released' n ≡ false → a.released n ≡ false
      still n r = at (same_name m n) refl
        where
          at : (t : Bool) → same_name m n ≡ t → a.released n ≡ false
          at true t = absurd (both_ways (released' n) (put-same a.released m true n t) r)
          at false t = sym (put-other a.released m true n t) ∙ r

      kept : (rooms' : Rooms) → ((n : Name) (j : ℕ) → e.home n ≡ Some (FastMemref j) → released' n ≡ false → rooms' j ≡ rooms j) → ((j : ℕ) → e.fasts ≤ j → rooms' j ≡ None) → Homes slow rooms' a.scope released' e
      kept rooms' at fresh = homes_kept slow rooms a e stands h (Dealloc m ty) rest k rooms' released' (λ n ty' r. other n ty' r) refl still at fresh
        where
          other : (n : Name) (ty' : MemrefType) → Dealloc m ty ≡ Alloc n ty' → ⊥
          other n ty' r = cc

      by : (o : Option Home) → e.home m ≡ o → Freed slow rooms a.scope released' e (dealloc_of o ty) o
      by None q = record { roomed = tt; homes = kept rooms (λ n j r s. refl) h.fresh; same = λ j. refl }
      by (Some (SlowMemref number first)) q = record { roomed = tt; homes = kept rooms (λ n j r s. refl) h.fresh; same = λ j. refl }
      by (Some (TagMemref first)) q = record { roomed = tt; homes = kept rooms (λ n j r s. refl) h.fresh; same = λ j. refl }
      by (Some (FastMemref i)) q = record {
        roomed = tt;
        homes = kept (with_room rooms i None)
            (λ n j r s. room_other rooms i j None (λ z. both_ways (released' n) (put-same a.released m true n (same_name-is m n (h.single m n j (q ∙ ap (λ c. Some (FastMemref c)) z) r))) s))
            (λ j l. elim (ℕ_discrete i j) [ yes z ↦ room_same rooms i j None z | no z ↦ room_other rooms i j None z ∙ h.fresh j l ]);
        same = λ j. refl;
      }

  -- an allocation, whose dealloc comes later
  made_step : (r : Name) (ty : MemrefType) (later : ℕ → Bool) → Holds (counted a) (Alloc r ty) rest → (is_fast ty ≡ true → later e.fasts ≡ true) → Stepped slow rooms a e (Alloc r ty) later
  unfolding action_of after_plain
  made_step r ty later k comes =
      let m = by (is_fast ty) comes in
      record { roomed = m.roomed; homes = m.homes; same = m.same }
    where
      scope' : Scope
      scope' = put a.scope r (Some (Allocation ty))

      fast_env : Env
      fast_env = record e { home = put e.home r (Some (FastMemref e.fasts)); fasts = suc e.fasts }

      tag_env : Env
      tag_env = record e { home = put e.home r (Some (TagMemref e.tags)); tags = e.tags + product ty.sizes }

      below : (m : Name) (j : ℕ) → e.home m ≡ Some (FastMemref j) → j < e.fasts
      below m j q = (fast_home slow rooms e.fasts j (a.scope m) (a.released m) (subst (HomeOk slow rooms e.fasts (a.scope m) (a.released m)) q (h.each m))).below

      rooms' : Rooms
      rooms' = with_room rooms e.fasts (Some (half_cells ty.sizes))

      fast_each : (m : Name) (t : Bool) → same_name r m ≡ t → HomeOk slow rooms' (suc e.fasts) (scope' m) (a.released m) (put e.home r (Some (FastMemref e.fasts)) m)
      fast_each m true t = subst (λ x. x) (λ i. HomeOk slow rooms' (suc e.fasts) (sym (put-same a.scope r (Some (Allocation ty)) m t) i) (a.released m) (sym (put-same e.home r (Some (FastMemref e.fasts)) m t) i))
          (omega arith, λ _. room_same rooms e.fasts e.fasts (Some (half_cells ty.sizes)) refl)
      fast_each m false t = subst (λ x. x) (λ i. HomeOk slow rooms' (suc e.fasts) (sym (put-other a.scope r (Some (Allocation ty)) m t) i) (a.released m) (sym (put-other e.home r (Some (FastMemref e.fasts)) m t) i))
          (home_along slow rooms rooms' e.fasts (suc e.fasts) (a.scope m) (a.released m) (a.released m) (e.home m) (omega arith) (λ q. q) (λ j q l _. room_other rooms e.fasts j (Some (half_cells ty.sizes)) (λ z. omega (arith, z, l))) (h.each m))

      fast_single : (m n : Name) (j : ℕ) (s t : Bool) → same_name r m ≡ s → same_name r n ≡ t → put e.home r (Some (FastMemref e.fasts)) m ≡ Some (FastMemref j) → put e.home r (Some (FastMemref e.fasts)) n ≡ Some (FastMemref j) → m ≡ n
      fast_single m n j true true s t p q = sym (same_name-eq r m s) ∙ same_name-eq r n t
      fast_single m n j true false s t p q =
          let z = same_made e.fasts j (sym (put-same e.home r (Some (FastMemref e.fasts)) m s) ∙ p) in
          let l = below n j (sym (put-other e.home r (Some (FastMemref e.fasts)) n t) ∙ q) in absurd (omega (arith, z, l))
      fast_single m n j false true s t p q =
          let z = same_made e.fasts j (sym (put-same e.home r (Some (FastMemref e.fasts)) n t) ∙ q) in
          let l = below m j (sym (put-other e.home r (Some (FastMemref e.fasts)) m s) ∙ p) in absurd (omega (arith, z, l))
      fast_single m n j false false s t p q = h.single m n j (sym (put-other e.home r (Some (FastMemref e.fasts)) m s) ∙ p) (sym (put-other e.home r (Some (FastMemref e.fasts)) n t) ∙ q)

      tag_each : (m : Name) (t : Bool) → same_name r m ≡ t → HomeOk slow rooms e.fasts (scope' m) (a.released m) (put e.home r (Some (TagMemref e.tags)) m)
      tag_each m true t = subst (λ x. x) (λ i. HomeOk slow rooms e.fasts (sym (put-same a.scope r (Some (Allocation ty)) m t) i) (a.released m) (sym (put-same e.home r (Some (TagMemref e.tags)) m t) i)) tt
      tag_each m false t = subst (λ x. x) (λ i. HomeOk slow rooms e.fasts (sym (put-other a.scope r (Some (Allocation ty)) m t) i) (a.released m) (sym (put-other e.home r (Some (TagMemref e.tags)) m t) i)) (h.each m)

      tag_old : (m : Name) (j : ℕ) (t : Bool) → same_name r m ≡ t → put e.home r (Some (TagMemref e.tags)) m ≡ Some (FastMemref j) → e.home m ≡ Some (FastMemref j)
      tag_old m j true t p = absurd (tag_made e.tags j (sym (put-same e.home r (Some (TagMemref e.tags)) m t) ∙ p))
      tag_old m j false t p = sym (put-other e.home r (Some (TagMemref e.tags)) m t) ∙ p

      by : (t : Bool) → (t ≡ true → later e.fasts ≡ true) → Made slow rooms scope' a.released later (if t then Allocates e.fasts ty.element ty.sizes else AllocatesTags e.tags (product ty.sizes)) (if t then fast_env else tag_env)
      by true comes = record {
        roomed = h.fresh e.fasts (omega arith);
        homes = record {
          each = λ m. fast_each m (same_name r m) refl;
          fresh = λ j l. room_other rooms e.fasts j (Some (half_cells ty.sizes)) (λ z. omega (arith, z, l)) ∙ h.fresh j (omega (arith, l));
          single = λ m n j p q. fast_single m n j (same_name r m) (same_name r n) refl refl p q;
        };
        same = λ j g. room_other rooms e.fasts j (Some (half_cells ty.sizes)) (λ z. both_ways (later j) (ap later (sym z) ∙ comes refl) g);
      }
      by false comes = record {
        roomed = tt;
        homes = record { each = λ m. tag_each m (same_name r m) refl; fresh = h.fresh; single = λ m n j p q. h.single m n j (tag_old m j (same_name r m) refl p) (tag_old n j (same_name r n) refl q) };
        same = λ j g. refl;
      }

  pub stepped_by : (p : Plain) (t : Totals) → Holds (counted a) p rest → SafePlain e p → SafeNest rest (after_plain p e) → told rest (behind_plain p (counted a)) ≡ Passed t → ScopeStands (behind_plain p (counted a)).scope (after_plain p e)
      → Stepped slow rooms a e p (gone rest (after_plain p e))
  stepped_by (Alloc r ty) t k safe more q st' = made_step r ty _ k (λ fast.
      gone_by_dealloc rest (behind_plain (Alloc r ty) (counted a)) t (after_plain (Alloc r ty) e) r e.fasts st' more q (bound_new a.scope r ty) (fast_new e r ty fast) (let o = own_of_alloc a r ty rest k in omega (arith, o)))
  stepped_by (Dealloc m ty) t k safe more q st' = freed_step m ty _ k
  stepped_by (Value r pick at) t k safe more q st' = quiet_step (Value r pick at) _ k safe refl
  stepped_by (Load r x at ty) t k safe more q st' = quiet_step (Load r x at ty) _ k safe refl
  stepped_by (Store x y at ty) t k safe more q st' = quiet_step (Store x y at ty) _ k safe refl
  stepped_by (RawLoad r x at ty) t k safe more q st' = quiet_step (RawLoad r x at ty) _ k safe refl
  stepped_by (RawStore x y at ty) t k safe more q st' = quiet_step (RawStore x y at ty) _ k safe refl
  stepped_by (Constant r z ty) t k safe more q st' = quiet_step (Constant r z ty) _ k safe refl
  stepped_by (Binary r op x y ty) t k safe more q st' = quiet_step (Binary r op x y ty) _ k safe refl
  stepped_by (Cast r kind x from to) t k safe more q st' = quiet_step (Cast r kind x from to) _ k safe refl
  stepped_by (Start x xa y ya u ta n stride types) t k safe more q st' = quiet_step (Start x xa y ya u ta n stride types) _ k safe refl
  stepped_by (Wait u at n ty) t k safe more q st' = quiet_step (Wait u at n ty) _ k safe refl
  stepped_by Return t k safe more q st' = quiet_step Return _ k safe refl

-- ---- the whole text

-- a list with its rooms behind it
pub record Roomed (slow : ℕ) (rooms : Rooms) (xs : List Action) (gone : ℕ → Bool) : Type 0 where
  pub all : AllRoomed slow rooms xs
  pub ends : (k : ℕ) → rooms_all rooms xs k ≡ (if gone k then None else rooms k)

-- a region leaves the rooms of what stands before it, and what it allocates is released behind it
closed_region : (slow : ℕ) (rooms : Rooms) (n : Nest) (e : Env) (fasts : ℕ) (xs : List Action) → ((k : ℕ) → fasts ≤ k → rooms k ≡ None) → fasts ≤ e.fasts → Spared fasts e n → Roomed slow rooms xs (gone n e) → Closed slow rooms xs
closed_region slow rooms n e fasts xs fresh low spared r = record { all = r.all; same = λ i k. each k i }
  where
    either : (b : Bool) (o : Option ℕ) → o ≡ None → (if b then None else o) ≡ o
    either true o e = sym e
    either false o e = refl

    each : (k : ℕ) → rooms_all rooms xs k ≡ rooms k
    each k = elim (dec_le fasts k) [
      | yes l ↦ r.ends k ∙ either (gone n e k) (rooms k) (fresh k l)
      | no l ↦ r.ends k ∙ if_false (gone n e k) None (rooms k) (not_gone fasts n e k low (omega (arith, l)) spared)
    ]

spared_by : (bound : ℕ) (e : Env) (n : Nest) → NoneIn e n → Spared bound e n
spared_by bound e n h m k q l = h m (subst IsAllocated (sym q) tt)

-- a statement and what follows it
roomed_cons : (slow : ℕ) (rooms : Rooms) (a : Around) (e : Env) (p : Plain) (rest : Nest) (xs : List Action) → Stepped slow rooms a e p (gone rest (after_plain p e)) → Roomed slow (rooms_after rooms (action_of p e)) xs (gone rest (after_plain p e))
    → Roomed slow rooms (action_of p e ∷ xs) (λ k. frees_by p e k || gone rest (after_plain p e) k)
roomed_cons slow rooms a e p rest xs s r = record { all = (s.roomed, r.all); ends = λ k. by k (gone rest (after_plain p e) k) refl }
  where
    first : (f : Bool) (o : Option ℕ) → (if f then None else o) ≡ (if f || false then None else o)
    first true o = refl
    first false o = refl

    last : (f : Bool) (o : Option ℕ) → None ≡ (if f || true then None else o)
    last true o = refl
    last false o = refl

    by : (k : ℕ) (b : Bool) → gone rest (after_plain p e) k ≡ b → rooms_all (rooms_after rooms (action_of p e)) xs k ≡ (if frees_by p e k || gone rest (after_plain p e) k then None else rooms k)
    by k true q = r.ends k ∙ if_true (gone rest (after_plain p e) k) None _ q ∙ last (frees_by p e k) (rooms k) ∙ ap (λ b. if frees_by p e k || b then None else rooms k) (sym q)
    by k false q = r.ends k ∙ if_false (gone rest (after_plain p e) k) None _ q ∙ s.same k q ∙ first (frees_by p e k) (rooms k) ∙ ap (λ b. if frees_by p e k || b then None else rooms k) (sym q)

-- a closed list and then another
roomed_append_closed : (slow : ℕ) (rooms : Rooms) (xs ys : List Action) (g : ℕ → Bool) → Closed slow rooms xs → Roomed slow rooms ys g → Roomed slow rooms (xs ++ ys) g
roomed_append_closed slow rooms xs ys g c r = record {
  all = roomed_append slow rooms xs ys c.all (subst (λ r. AllRoomed slow r ys) (sym c.same) r.all);
  ends = λ k. (λ i. rooms_append rooms xs ys i k) ∙ (λ i. rooms_all (c.same i) ys k) ∙ r.ends k;
}

module _ (slow : ℕ) where
  pub roomed : (n : Nest) (a : Around) (t : Totals) (e : Env) (rooms : Rooms) → ScopeStands a.scope e → SafeNest n e → Homes slow rooms a.scope a.released e → OwnAll e n → told n a ≡ Passed t → Roomed slow rooms (actions n e) (gone n e)
  unfolding told actions
  roomed Nothing a t e rooms st safe h own q = record { all = tt; ends = λ k. refl }
  roomed (Loop line x l u s body rest) a t e rooms st safe h own q =
      let j = judged_passed line (rule_of_loop (counted a) x l u s) _ t q in
      let p = then_passed (told body (in_loop x l u (counted a))) (λ t. told rest (with_totals t a)) t j.1 in
      let new = (loop_holds (counted a) x l u s j.0).new_name in
      let both = own_loop line x l u s body rest e own in
      let turn = λ (z : ℤ) (from : lower_of e l ≤ℤ z) (to : z <ℤ upper_of e u).
      closed_region slow rooms body (knows e x z) e.fasts (actions body (knows e x z)) h.fresh (omega arith) (spared_by e.fasts e body both.0)
      (roomed body (in_loop x l u (counted a)) p.0 (knows e x z) rooms (turn_stands a.scope e x _ z st new (small_between _ _ z safe.1.lower_small safe.1.upper_small from to)) (safe.2 z from to)
      (homes_turn slow rooms a.scope a.released e x _ z st new h) (none_own e body both.0) p.1) in
      roomed_append_closed slow rooms (flat_map (λ t. actions body (knows e x t)) (turns (lower_of e l) (upper_of e u) s)) (actions rest (behind body e)) (gone rest (behind body e))
      (closed_turns slow rooms (λ t. actions body (knows e x t)) (lower_of e l) (upper_of e u) turn (turns (lower_of e l) (upper_of e u) s) (all_between (lower_of e l) (upper_of e u) s))
      (roomed rest (with_totals p.0 a) t (behind body e) rooms st safe.3 (homes_behind slow rooms a.scope a.released e (behind body e) refl (omega arith) h) both.1 p.2)
  roomed (Branch line set names first has other rest) a t e rooms st safe h own q =
      let j = judged_passed line (rule_of_condition (counted a) set names) _ t q in
      let p = then_passed (told first (in_condition (counted a))) (λ t. then_told (told other (in_condition (with_totals t a))) (λ u. told rest (with_totals u a))) t j.1 in
      let w = then_passed (told other (in_condition (with_totals p.0 a))) (λ u. told rest (with_totals u a)) t p.2 in
      let three = own_branch line set names first has other rest e own in
      let e1 : Env = behind first e in
      let h1 = homes_behind slow rooms a.scope a.released e e1 refl (omega arith) h in
      let one = closed_region slow rooms first e e.fasts (actions first e) h.fresh (omega arith) (spared_by e.fasts e first three.0) (roomed first (in_condition (counted a)) p.0 e rooms st safe.2 h (none_own e first three.0) p.1) in
      let two = closed_region slow rooms other e1 e.fasts (actions other e1) h.fresh (omega arith) (spared_by e.fasts e1 other three.1) (roomed other (in_condition (with_totals p.0 a)) w.0 e1 rooms st safe.3 h1 (none_own e1 other three.1) w.1) in
      roomed_append_closed slow rooms (if holds_at e set names then actions first e else actions other e1) (actions rest (behind other e1)) (gone rest (behind other e1))
      (chosen rooms (holds_at e set names) (actions first e) (actions other e1) one two)
      (roomed rest (with_totals w.0 a) t (behind other e1) rooms st safe.4 (homes_behind slow rooms a.scope a.released e (behind other e1) refl (omega arith) h) three.2 w.2)
    where
      chosen : (rooms : Rooms) (b : Bool) (xs ys : List Action) → Closed slow rooms xs → Closed slow rooms ys → Closed slow rooms (if b then xs else ys)
      chosen rooms true xs ys c d = c
      chosen rooms false xs ys c d = d
  roomed (Does line p rest) a t e rooms st safe h own q =
      let j = judged_passed line (rule_of_plain (counted a) p rest) _ t q in
      let holds = plain_holds (counted a) p rest j.0 in
      let st' = plain_stands a p rest e st holds safe.1 in
      let own' = own_plain a e st line p rest holds own in
      let step = stepped_by slow rooms a e st h rest p t holds safe.1 safe.2 j.1 st' in
      roomed_cons slow rooms a e p rest (actions rest (after_plain p e)) step
      (roomed rest (behind_plain p (counted a)) t (after_plain p e) (rooms_after rooms (action_of p e)) st' safe.2 step.homes own' j.1)
