-- Which names are allocations, before a statement and behind it.
use Rattle.std.proofs.Common.{◌≡◌, Bool, true, false, refl, sym, ap, ◌∙◌}
use Rattle.std.specs.Prelude.{not, Option, Some, None}
use Rattle.affine_ast.specs.declared.name.Name.{Name}
use Rattle.affine_ast.specs.declared.types.MemrefType.{MemrefType}
use Rattle.affine_ast.specs.declared.types.Scalar.TheVariants as scalar
use Rattle.affine_ast.specs.Names.{same_name, put}
use Rattle.affine_ast.proofs.Names.{put-same, put-other, same_name-eq}
use Rattle.affine_ast.specs.Nest.{Plain, Nest, Value, Load, Store, RawLoad, RawStore, Constant, Binary, Cast, Alloc, Dealloc, Start, Wait, Return}
use Rattle.affine_ast.specs.Rules.{is_in, is_allocation, is_allocated}
use Rattle.affine_ast.specs.Scope.{Binding, Variable, Symbol, IndexConstant, Data, MemrefArgument, Allocation, Scope, Around, counted, behind_plain}
use Rattle.valid_laws.proofs.Passing.{Holds}

pub both : (b : Bool) → b ≡ true → b ≡ false → ⊥
both true p q = let z : ⊥ = cc in z
both false p q = let z : ⊥ = cc in z

is_new_name : (s : Scope) (n : Name) → not (is_in s n) ≡ true → is_in s n ≡ false
is_new_name s n h = by (is_in s n) h
  where
    by : (b : Bool) → not b ≡ true → b ≡ false
    by true e = absurd (let z : ⊥ = cc in z)
    by false e = refl

-- a new name is another one
kept_put : (s : Scope) (n : Name) (b : Option Binding) (m : Name) → not (is_in s n) ≡ true → is_in s m ≡ true → put s n b m ≡ s m
kept_put s n b m new i = by (same_name n m) refl
  where
    by : (t : Bool) → same_name n m ≡ t → put s n b m ≡ s m
    by true t = absurd (both (is_in s m) i (ap (is_in s) (sym (same_name-eq n m t)) ∙ is_new_name s n new))
    by false t = put-other s n b m t

-- a name in scope stands for the same behind a statement
pub scope_kept : (a : Around) (p : Plain) (rest : Nest) (m : Name) → Holds (counted a) p rest → is_in a.scope m ≡ true → (behind_plain p (counted a)).scope m ≡ a.scope m
scope_kept a (Value r pick at) rest m h i = kept_put a.scope r _ m h.new_name i
scope_kept a (Load r x at ty) rest m h i = kept_put a.scope r _ m h.new_name i
scope_kept a (Store x y at ty) rest m h i = refl
scope_kept a (RawLoad r x at ty) rest m h i = kept_put a.scope r _ m h.new_name i
scope_kept a (RawStore x y at ty) rest m h i = refl
scope_kept a (Constant r z ty) rest m h i = kept_put a.scope r _ m h.new_name i
scope_kept a (Binary r op x y ty) rest m h i = kept_put a.scope r _ m h.new_name i
scope_kept a (Cast r kind x from to) rest m h i = kept_put a.scope r _ m h.new_name i
scope_kept a (Alloc r ty) rest m h i = kept_put a.scope r _ m h.new_name i
scope_kept a (Dealloc x ty) rest m h i = refl
scope_kept a (Start x xa y ya t ta n stride types) rest m h i = refl
scope_kept a (Wait t at n ty) rest m h i = refl
scope_kept a Return rest m h i = refl

-- a binding of another kind makes no allocation
pub put_allocated : (s : Scope) (n : Name) (b : Option Binding) (m : Name) → is_allocation b ≡ false → is_allocated (put s n b) m ≡ true → is_allocated s m ≡ true
unfolding is_allocated
put_allocated s n b m none h = by (same_name n m) refl
  where
    by : (t : Bool) → same_name n m ≡ t → is_allocation (s m) ≡ true
    by true t = absurd (both (is_allocation b) (sym (ap is_allocation (put-same s n b m t)) ∙ h) none)
    by false t = sym (ap is_allocation (put-other s n b m t)) ∙ h

-- an allocation behind a statement was one before it, or is made by it
pub data Before (a : Around) (p : Plain) (m : Name) : Type 0 where
  was : is_allocated a.scope m ≡ true → Before a p m
  is_made : (ty : MemrefType) → p ≡ Alloc m ty → Before a p m

pub before : (a : Around) (p : Plain) (m : Name) → is_allocated (behind_plain p (counted a)).scope m ≡ true → Before a p m
unfolding is_allocated
before a (Value r pick at) m h = was (put_allocated a.scope r _ m refl h)
before a (Load r x at ty) m h = was (put_allocated a.scope r _ m refl h)
before a (Store x y at ty) m h = was h
before a (RawLoad r x at ty) m h = was (put_allocated a.scope r _ m refl h)
before a (RawStore x y at ty) m h = was h
before a (Constant r z (scalar.Int element)) m h = was (put_allocated a.scope r _ m refl h)
before a (Constant r z scalar.Index) m h = was (put_allocated a.scope r _ m refl h)
before a (Binary r op x y ty) m h = was (put_allocated a.scope r _ m refl h)
before a (Cast r kind x from to) m h = was (put_allocated a.scope r _ m refl h)
before a (Alloc r ty) m h = by (same_name r m) refl
  where
    by : (t : Bool) → same_name r m ≡ t → Before a (Alloc r ty) m
    by true t = is_made ty (ap (λ n. Alloc n ty) (same_name-eq r m t))
    by false t = was (sym (ap is_allocation (put-other a.scope r (Some (Allocation ty)) m t)) ∙ h)
before a (Dealloc x ty) m h = was h
before a (Start x xa y ya t ta n stride types) m h = was h
before a (Wait t at n ty) m h = was h
before a Return m h = was h

-- what an allocation is
pub allocation_is : (b : Option Binding) → is_allocation b ≡ true → (ty : MemrefType) × (b ≡ Some (Allocation ty))
allocation_is None h = absurd (let z : ⊥ = cc in z)
allocation_is (Some (Variable r)) h = absurd (let z : ⊥ = cc in z)
allocation_is (Some (Symbol r)) h = absurd (let z : ⊥ = cc in z)
allocation_is (Some (IndexConstant z)) h = absurd (let y : ⊥ = cc in y)
allocation_is (Some (Data ty)) h = absurd (let z : ⊥ = cc in z)
allocation_is (Some (MemrefArgument ty)) h = absurd (let z : ⊥ = cc in z)
allocation_is (Some (Allocation ty)) h = (ty, refl)
