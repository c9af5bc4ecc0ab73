-- Each allocation in scope has its dealloc in its own region, and nowhere else.
use Rattle.std.proofs.Common.{◌≡◌, ◌⊎◌, inl, inr, ℕ, ◌≤◌, Bool, true, false, refl, sym, ap, ◌∙◌, subst, arith}
use Rattle.std.specs.Prelude.{◌&&◌, nat_eq, Option, Some, None, if◌then◌else◌}
use Rattle.std.proofs.lemmas.Bool.{and_parts}
use Rattle.affine_ast.specs.declared.name.Name.{Name}
use Rattle.affine_ast.specs.declared.types.MemrefType.{MemrefType}
use Rattle.affine_ast.specs.Names.{same_name}
use Rattle.affine_ast.proofs.Names.{same_name-eq}
use Rattle.affine_ast.specs.Nest.{Plain, Nest, Nothing, Loop, Branch, Does, Value, Load, Store, RawLoad, RawStore, Constant, Binary, Cast, Alloc, Dealloc, Start, Wait, Return}
use Rattle.affine_ast.specs.Rules.{spaces_agree, is_dealloc_of, deallocs, own_deallocs, is_released_once, allocates_well}
use Rattle.affine_ast.specs.Scope.{Around, counted}
use Rattle.direct_meaning.specs.Action.{Home, SlowMemref, FastMemref, TagMemref}
use Rattle.direct_meaning.specs.Actions.{after_plain}
use Rattle.direct_meaning.specs.Static.{Env}
use Rattle.valid_laws.proofs.Passing.{Holds}
use Rattle.valid_laws.proofs.Scoped.{ScopeStands}
use Rattle.order_meaning.proofs.Sides.{same_number}
use Rattle.order_laws.proofs.Memrefs.{After, as_before, no_memref, allocated, behind_name}

pub own_below : (m : Name) (n : Nest) → own_deallocs m n ≤ deallocs m n
unfolding own_deallocs deallocs
own_below m Nothing = omega arith
own_below m (Loop line v l u s body rest) = let k = own_below m rest in omega (arith, k)
own_below m (Branch line set names first has other rest) = let k = own_below m rest in omega (arith, k)
own_below m (Does line p rest) = let k = own_below m rest in omega (arith, k)

-- a statement is the dealloc of a name, or none
pub which_dealloc : (m : Name) (p : Plain) → (is_dealloc_of m p ≡ 0) ⊎ ((ty : MemrefType) × (p ≡ Dealloc m ty))
which_dealloc m (Dealloc x ty) = by (same_name x m) refl
  where
    one_if : Bool → ℕ
    one_if t = if t then 1 else 0

    by : (t : Bool) → same_name x m ≡ t → (is_dealloc_of m (Dealloc x ty) ≡ 0) ⊎ ((ty' : MemrefType) × (Dealloc x ty ≡ Dealloc m ty'))
    by true t = inr (ty, ap (λ n. Dealloc n ty) (same_name-eq x m t))
    by false t = inl (ap one_if t)
which_dealloc m (Value r pick at) = inl refl
which_dealloc m (Load r x at ty) = inl refl
which_dealloc m (Store x y at ty) = inl refl
which_dealloc m (RawLoad r x at ty) = inl refl
which_dealloc m (RawStore x y at ty) = inl refl
which_dealloc m (Constant r z ty) = inl refl
which_dealloc m (Binary r op x y ty) = inl refl
which_dealloc m (Cast r kind x from to) = inl refl
which_dealloc m (Alloc r ty) = inl refl
which_dealloc m (Start x xa y ya t ta n stride types) = inl refl
which_dealloc m (Wait t at n ty) = inl refl
which_dealloc m Return = inl refl

-- an allocation of space 1 or 2
abbrev pub IsAllocated : Option Home → Type 0
IsAllocated None = ⊥
IsAllocated (Some (SlowMemref number first)) = ⊥
IsAllocated (Some (FastMemref k)) = Unit {0}
IsAllocated (Some (TagMemref first)) = Unit {0}

-- all deallocs of what is allocated stand in this region itself
abbrev pub OwnAll : Env → Nest → Type 0
OwnAll e n = (m : Name) → IsAllocated (e.home m) → deallocs m n ≡ own_deallocs m n

-- none is in a region inside
abbrev pub NoneIn : Env → Nest → Type 0
NoneIn e n = (m : Name) → IsAllocated (e.home m) → deallocs m n ≡ 0

pub none_own : (e : Env) (n : Nest) → NoneIn e n → OwnAll e n
none_own e n h m i = let k = h m i in let l = own_below m n in omega (arith, k, l)

pub own_loop : (line : ℕ) (v : Name) (l u : _) (s : _) (body rest : Nest) (e : Env) → OwnAll e (Loop line v l u s body rest) → NoneIn e body × OwnAll e rest
unfolding own_deallocs deallocs
own_loop line v l u s body rest e h = (
  (λ m i. let k = h m i in let b = own_below m rest in omega (arith, k, b)),
  (λ m i. let k = h m i in let b = own_below m rest in omega (arith, k, b)),
)

pub own_branch : (line : ℕ) (set : _) (names : _) (first : Nest) (has : Bool) (other rest : Nest) (e : Env) → OwnAll e (Branch line set names first has other rest) → NoneIn e first × NoneIn e other × OwnAll e rest
unfolding own_deallocs deallocs
own_branch line set names first has other rest e h = (
  (λ m i. let k = h m i in let b = own_below m rest in omega (arith, k, b)),
  (λ m i. let k = h m i in let b = own_below m rest in omega (arith, k, b)),
  (λ m i. let k = h m i in let b = own_below m rest in omega (arith, k, b)),
)

-- behind a plain statement
pub own_plain : (a : Around) (e : Env) → ScopeStands a.scope e → (line : ℕ) (p : Plain) (rest : Nest) → Holds (counted a) p rest → OwnAll e (Does line p rest) → OwnAll (after_plain p e) rest
unfolding own_deallocs deallocs is_released_once
own_plain a e stands line p rest k h m i = by (behind_name a e stands m p rest k)
  where
    by : After a e p m → deallocs m rest ≡ own_deallocs m rest
    by (as_before q r) = let c = h m (subst IsAllocated r i) in omega (arith, c)
    by (no_memref q r) = absurd (subst IsAllocated r i)
    by (allocated q ty r) =
        let s = subst (λ p. spaces_agree (counted a) p rest ≡ true) r k.spaces in
        let o = (and_parts (allocates_well ty) (nat_eq (deallocs m rest) 1 && nat_eq (own_deallocs m rest) 1) s).1 in
        let two = and_parts (nat_eq (deallocs m rest) 1) (nat_eq (own_deallocs m rest) 1) o in
        same_number (deallocs m rest) 1 two.0 ∙ sym (same_number (own_deallocs m rest) 1 two.1)

-- the dealloc of what a statement allocates
pub own_of_alloc : (a : Around) (r : Name) (ty : MemrefType) (rest : Nest) → Holds (counted a) (Alloc r ty) rest → own_deallocs r rest ≡ 1
unfolding is_released_once
own_of_alloc a r ty rest k =
    let o = (and_parts (allocates_well ty) (nat_eq (deallocs r rest) 1 && nat_eq (own_deallocs r rest) 1) k.spaces).1 in
    same_number (own_deallocs r rest) 1 (and_parts (nat_eq (deallocs r rest) 1) (nat_eq (own_deallocs r rest) 1) o).1
