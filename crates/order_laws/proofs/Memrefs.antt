-- What the memrefs in scope are where the list of actions is made, and behind each statement.
use Rattle.std.proofs.Common.{◌≡◌, ℕ, suc, ◌+◌, ◌<◌, ◌≤◌, ℤ, Bool, true, false, refl, sym, ap, ◌∙◌, subst, arith}
use Rattle.std.specs.Prelude.{not, Option, Some, None, if◌then◌else◌}
use Rattle.affine_ast.specs.declared.name.Name.{Name}
use Rattle.affine_ast.specs.declared.types.MemrefType.{MemrefType}
use Rattle.affine_ast.specs.declared.types.Scalar.TheVariants as scalar
use Rattle.affine_ast.specs.Names.{same_name, put}
use Rattle.affine_ast.proofs.Names.{put-other, same_name-eq}
use Rattle.affine_ast.specs.Nest.{Plain, Nest, Value, Load, Store, RawLoad, RawStore, Constant, Binary, Cast, Alloc, Dealloc, Start, Wait, Return}
use Rattle.affine_ast.specs.Rules.{is_in, binding_is_memref_of}
use Rattle.affine_ast.specs.Scope.{Binding, Variable, Symbol, IndexConstant, Data, MemrefArgument, Allocation, Scope, Around, counted, behind_plain}
use Rattle.affine_ast.specs.Sizes.{product}
use Rattle.direct_meaning.specs.Action.{Home, SlowMemref, FastMemref, TagMemref}
use Rattle.direct_meaning.specs.Actions.{half_cells, is_fast, after_plain}
use Rattle.direct_meaning.specs.Static.{Env, knows}
use Rattle.valid_laws.proofs.Passing.{Holds}
use Rattle.valid_laws.proofs.Scoped.{ScopeStands, type_same, new_name}
use Rattle.order_meaning.specs.Orderly.{Rooms}
use Rattle.order_meaning.proofs.Flights.{none_some, both_ways}

-- ---- a name behind a plain statement

-- it is as before, or it is new and no memref, or the statement allocates it
pub data After (a : Around) (e : Env) (p : Plain) (m : Name) : Type 0 where
  as_before : (behind_plain p (counted a)).scope m ≡ a.scope m → (after_plain p e).home m ≡ e.home m → After a e p m
  no_memref : is_in a.scope m ≡ false → (after_plain p e).home m ≡ None → After a e p m
  allocated : is_in a.scope m ≡ false → (ty : MemrefType) → p ≡ Alloc m ty → After a e p m

pub is_new_name : (s : Scope) (n : Name) → not (is_in s n) ≡ true → is_in s n ≡ false
is_new_name s n h = by (is_in s n) h
  where
    by : (b : Bool) → not b ≡ true → b ≡ false
    by true e = absurd (let z : ⊥ = cc in z)
    by false e = refl

module _ (a : Around) (e : Env) (h : ScopeStands a.scope e) (m : Name) where
  -- a name that the statement defines, or another one
  defined : (P : Type 0) (r : Name) (b : Binding) → not (is_in a.scope r) ≡ true → (put a.scope r (Some b) m ≡ a.scope m → P) → (is_in a.scope m ≡ false → e.home m ≡ None → P) → P
  defined P r b new kept other = by (same_name r m) refl
    where
      by : (t : Bool) → same_name r m ≡ t → P
      by true t = let q = same_name-eq r m t in other (ap (is_in a.scope) (sym q) ∙ is_new_name a.scope r new) (ap e.home (sym q) ∙ (new_name a.scope e r h new).1)
      by false t = kept (put-other a.scope r (Some b) m t)

  pub behind_name : (p : Plain) (rest : Nest) → Holds (counted a) p rest → After a e p m
  unfolding after_plain
  behind_name (Value r pick at) rest k = defined (After a e (Value r pick at) m) r _ k.new_name (λ q. as_before q refl) (λ q z. no_memref q z)
  behind_name (Load r x at ty) rest k = defined (After a e (Load r x at ty) m) r _ k.new_name (λ q. as_before q refl) (λ q z. no_memref q z)
  behind_name (Store x y at ty) rest k = as_before refl refl
  behind_name (RawLoad r x at ty) rest k = defined (After a e (RawLoad r x at ty) m) r _ k.new_name (λ q. as_before q refl) (λ q z. no_memref q z)
  behind_name (RawStore x y at ty) rest k = as_before refl refl
  behind_name (Constant r z (scalar.Int element)) rest k = defined (After a e (Constant r z (scalar.Int element)) m) r _ k.new_name (λ q. as_before q refl) (λ q z. no_memref q z)
  behind_name (Constant r z scalar.Index) rest k = defined (After a e (Constant r z scalar.Index) m) r _ k.new_name (λ q. as_before q refl) (λ q z. no_memref q z)
  behind_name (Binary r op x y ty) rest k = defined (After a e (Binary r op x y ty) m) r _ k.new_name (λ q. as_before q refl) (λ q z. no_memref q z)
  behind_name (Cast r kind x from to) rest k = defined (After a e (Cast r kind x from to) m) r _ k.new_name (λ q. as_before q refl) (λ q z. no_memref q z)
  behind_name (Alloc r ty) rest k = by (same_name r m) refl
    where
      home_kept : (t : Bool) → same_name r m ≡ false → (if t then record e { home = put e.home r (Some (FastMemref e.fasts)); fasts = suc e.fasts } else record e { home = put e.home r (Some (TagMemref e.tags)); tags = e.tags + product ty.sizes }).home m ≡ e.home m
      home_kept true q = put-other e.home r (Some (FastMemref e.fasts)) m q
      home_kept false q = put-other e.home r (Some (TagMemref e.tags)) m q

      by : (t : Bool) → same_name r m ≡ t → After a e (Alloc r ty) m
      by true t = let q = same_name-eq r m t in allocated (ap (is_in a.scope) (sym q) ∙ is_new_name a.scope r k.new_name) ty (ap (λ r. Alloc r ty) q)
      by false t = as_before (put-other a.scope r (Some (Allocation ty)) m t) (home_kept (is_fast ty) t)
  behind_name (Dealloc x ty) rest k = as_before refl refl
  behind_name (Start x xa y ya t ta n stride types) rest k = as_before refl refl
  behind_name (Wait t at n ty) rest k = as_before refl refl
  behind_name Return rest k = as_before refl refl

-- a name in scope is as before
pub kept_name : (a : Around) (e : Env) (p : Plain) (m : Name) → After a e p m → is_in a.scope m ≡ true → ((behind_plain p (counted a)).scope m ≡ a.scope m) × ((after_plain p e).home m ≡ e.home m)
kept_name a e p m (as_before q r) i = (q, r)
kept_name a e p m (no_memref q r) i = absurd (both_ways (is_in a.scope m) i q)
kept_name a e p m (allocated q ty r) i = absurd (both_ways (is_in a.scope m) i q)

-- ---- the memrefs in scope

-- an argument lies in the slow places; an allocation in space 1 has its room until it is released
abbrev pub HomeOk : ℕ → Rooms → ℕ → Option Binding → Bool → Option Home → Type 0
HomeOk slow rooms fasts b released None = Unit {0}
HomeOk slow rooms fasts (Some (MemrefArgument ty)) released (Some (SlowMemref number first)) = first + product ty.sizes ≤ slow
HomeOk slow rooms fasts (Some (Allocation ty)) released (Some (FastMemref k)) = (k < fasts) × (released ≡ false → rooms k ≡ Some (half_cells ty.sizes))
HomeOk slow rooms fasts (Some (Allocation ty)) released (Some (TagMemref first)) = Unit {0}
HomeOk slow rooms fasts b released (Some home) = ⊥

pub record Homes (slow : ℕ) (rooms : Rooms) (scope : Scope) (released : Name → Bool) (e : Env) : Type 0 where
  pub each : (m : Name) → HomeOk slow rooms e.fasts (scope m) (released m) (e.home m)
  -- what isn't reached yet isn't allocated
  pub fresh : (k : ℕ) → e.fasts ≤ k → rooms k ≡ None
  -- no two names stand for one memref
  pub single : (m n : Name) (k : ℕ) → e.home m ≡ Some (FastMemref k) → e.home n ≡ Some (FastMemref k) → m ≡ n

-- what a name for a fast memref, or a slow one, is known to be
pub record IsRoom (rooms : Rooms) (fasts k : ℕ) (b : Option Binding) (released : Bool) : Type 0 where
  pub ty : MemrefType
  pub bound : b ≡ Some (Allocation ty)
  pub below : k < fasts
  pub room : released ≡ false → rooms k ≡ Some (half_cells ty.sizes)

pub fast_home : (slow : ℕ) (rooms : Rooms) (fasts k : ℕ) (b : Option Binding) (released : Bool) → HomeOk slow rooms fasts b released (Some (FastMemref k)) → IsRoom rooms fasts k b released
fast_home slow rooms fasts k None released h = absurd h
fast_home slow rooms fasts k (Some (Variable r)) released h = absurd h
fast_home slow rooms fasts k (Some (Symbol r)) released h = absurd h
fast_home slow rooms fasts k (Some (IndexConstant z)) released h = absurd h
fast_home slow rooms fasts k (Some (Data ty)) released h = absurd h
fast_home slow rooms fasts k (Some (MemrefArgument ty)) released h = absurd h
fast_home slow rooms fasts k (Some (Allocation ty)) released h = record { ty = ty; bound = refl; below = h.0; room = h.1 }

pub slow_home : (slow : ℕ) (rooms : Rooms) (fasts number first : ℕ) (b : Option Binding) (released : Bool) (ty : MemrefType) → HomeOk slow rooms fasts b released (Some (SlowMemref number first)) → binding_is_memref_of b ty ≡ true → first + product ty.sizes ≤ slow
slow_home slow rooms fasts number first None released ty h t = absurd h
slow_home slow rooms fasts number first (Some (Variable r)) released ty h t = absurd h
slow_home slow rooms fasts number first (Some (Symbol r)) released ty h t = absurd h
slow_home slow rooms fasts number first (Some (IndexConstant z)) released ty h t = absurd h
slow_home slow rooms fasts number first (Some (Data of)) released ty h t = absurd h
slow_home slow rooms fasts number first (Some (MemrefArgument of)) released ty h t = subst (λ ns. first + product ns ≤ slow) (type_same of ty t).sizes h
slow_home slow rooms fasts number first (Some (Allocation of)) released ty h t = absurd h

-- the rooms, the allocations so far and what is released may change for other memrefs
pub home_along : (slow : ℕ) (rooms rooms' : Rooms) (fasts fasts' : ℕ) (b : Option Binding) (released released' : Bool) (home : Option Home) → fasts ≤ fasts' → (released' ≡ false → released ≡ false)
    → ((k : ℕ) → home ≡ Some (FastMemref k) → k < fasts → released' ≡ false → rooms' k ≡ rooms k) → HomeOk slow rooms fasts b released home → HomeOk slow rooms' fasts' b released' home
home_along slow rooms rooms' fasts fasts' b released released' None more still same h = tt
home_along slow rooms rooms' fasts fasts' None released released' (Some home) more still same h = absurd h
home_along slow rooms rooms' fasts fasts' (Some (Variable r)) released released' (Some home) more still same h = absurd h
home_along slow rooms rooms' fasts fasts' (Some (Symbol r)) released released' (Some home) more still same h = absurd h
home_along slow rooms rooms' fasts fasts' (Some (IndexConstant z)) released released' (Some home) more still same h = absurd h
home_along slow rooms rooms' fasts fasts' (Some (Data ty)) released released' (Some home) more still same h = absurd h
home_along slow rooms rooms' fasts fasts' (Some (MemrefArgument ty)) released released' (Some (SlowMemref number first)) more still same h = h
home_along slow rooms rooms' fasts fasts' (Some (MemrefArgument ty)) released released' (Some (FastMemref k)) more still same h = absurd h
home_along slow rooms rooms' fasts fasts' (Some (MemrefArgument ty)) released released' (Some (TagMemref first)) more still same h = absurd h
home_along slow rooms rooms' fasts fasts' (Some (Allocation ty)) released released' (Some (SlowMemref number first)) more still same h = absurd h
home_along slow rooms rooms' fasts fasts' (Some (Allocation ty)) released released' (Some (FastMemref k)) more still same h = (omega (arith, h.0, more), λ r. same k refl h.0 r ∙ h.1 (still r))
home_along slow rooms rooms' fasts fasts' (Some (Allocation ty)) released released' (Some (TagMemref first)) more still same h = tt

-- ---- the invariant along a text

module _ (slow : ℕ) (rooms : Rooms) where
  -- fewer allocations to come, the same rooms
  pub homes_behind : (scope : Scope) (released : Name → Bool) (e e' : Env) → e'.home ≡ e.home → e.fasts ≤ e'.fasts → Homes slow rooms scope released e → Homes slow rooms scope released e'
  homes_behind scope released e e' same more h = record {
    each = λ m. subst (λ home. HomeOk slow rooms e'.fasts (scope m) (released m) (home m)) (sym same) (home_along slow rooms rooms e.fasts e'.fasts (scope m) (released m) (released m) (e.home m) more (λ r. r) (λ k q l r. refl) (h.each m));
    fresh = λ k l. h.fresh k (omega (arith, l, more));
    single = λ m n k p q. h.single m n k (ap (λ home. home m) (sym same) ∙ p) (ap (λ home. home n) (sym same) ∙ q);
  }

  -- a loop's variable more
  pub homes_turn : (scope : Scope) (released : Name → Bool) (e : Env) (v : Name) (b : Binding) (z : ℤ) → ScopeStands scope e → not (is_in scope v) ≡ true → Homes slow rooms scope released e → Homes slow rooms (put scope v (Some b)) released (knows e v z)
  homes_turn scope released e v b z stands new h = record {
    each = λ m. by m (same_name v m) refl;
    fresh = h.fresh;
    single = h.single;
  }
    where
      by : (m : Name) (t : Bool) → same_name v m ≡ t → HomeOk slow rooms e.fasts (put scope v (Some b) m) (released m) (e.home m)
      by m true t = subst (λ home. HomeOk slow rooms e.fasts (put scope v (Some b) m) (released m) home) (sym (ap e.home (sym (same_name-eq v m t)) ∙ (new_name scope e v stands new).1)) tt
      by m false t = subst (λ x. HomeOk slow rooms e.fasts x (released m) (e.home m)) (sym (put-other scope v (Some b) m t)) (h.each m)

  module _ (a : Around) (e : Env) (stands : ScopeStands a.scope e) (h : Homes slow rooms a.scope a.released e) (p : Plain) (rest : Nest) (k : Holds (counted a) p rest) where
    abbrev scope' : Scope
    scope' = (behind_plain p (counted a)).scope

    abbrev e' : Env
    e' = after_plain p e

    -- a statement that allocates nothing: names stand for what they did, or for no memref. The rooms may change for what is released
    pub homes_kept : (rooms' : Rooms) (released' : Name → Bool) → ((m : Name) (ty : MemrefType) → p ≡ Alloc m ty → ⊥) → e'.fasts ≡ e.fasts
        → ((m : Name) → released' m ≡ false → a.released m ≡ false) → ((m : Name) (j : ℕ) → e.home m ≡ Some (FastMemref j) → released' m ≡ false → rooms' j ≡ rooms j) → ((j : ℕ) → e.fasts ≤ j → rooms' j ≡ None)
        → Homes slow rooms' scope' released' e'
    homes_kept rooms' released' none_new same still at fresh = record {
      each = λ m. by m (behind_name a e stands m p rest k);
      fresh = λ j l. fresh j (omega (arith, l, same));
      single = λ m n j q r. h.single m n j (home m j (behind_name a e stands m p rest k) q) (home n j (behind_name a e stands n p rest k) r);
    }
      where
        by : (m : Name) → After a e p m → HomeOk slow rooms' e'.fasts (scope' m) (released' m) (e'.home m)
        by m (as_before q r) = subst (λ x. x) (λ i. HomeOk slow rooms' (sym same i) (sym q i) (released' m) (sym r i))
            (home_along slow rooms rooms' e.fasts e.fasts (a.scope m) (a.released m) (released' m) (e.home m) (omega arith) (still m) (λ j q l r. at m j q r) (h.each m))
        by m (no_memref q r) = subst (HomeOk slow rooms' e'.fasts (scope' m) (released' m)) (sym r) tt
        by m (allocated q ty r) = absurd (none_new m ty r)

        home : (m : Name) (j : ℕ) → After a e p m → e'.home m ≡ Some (FastMemref j) → e.home m ≡ Some (FastMemref j)
        home m j (as_before q r) is = sym r ∙ is
        home m j (no_memref q r) is = absurd (none_some (e'.home m) (FastMemref j) r is)
        home m j (allocated q ty r) is = absurd (none_new m ty r)
