-- The types of memrefs in scope have sizes and a space of the grammar.
use Rattle.std.proofs.Common.{◌≡◌, ℕ, ◌*◌, ◌≤◌, Bool, true, false, List, [], ◌∷◌, refl, sym, subst, arith}
use Rattle.std.specs.Prelude.{Option, Some, None}
use Rattle.std.proofs.lemmas.Bool.{and_parts}
use Rattle.std.proofs.Math.Nat.{le-mul_of_pos_right, mul-le-mul_right}
use Rattle.affine_ast.specs.declared.module.ArgKind.{ArgKind}
use Rattle.affine_ast.specs.declared.module.ArgKind.TheVariants as kind
use Rattle.affine_ast.specs.declared.name.Name.{Name}
use Rattle.affine_ast.specs.declared.types.MemrefType.{MemrefType}
use Rattle.affine_ast.specs.Names.{same_name, put}
use Rattle.affine_ast.specs.Nest.{Plain, Nest, Value, Load, Store, RawLoad, RawStore, Constant, Binary, Cast, Alloc, Dealloc, Start, Wait, Return}
use Rattle.affine_ast.specs.declared.types.Scalar.TheVariants.{Int, Index}
use Rattle.affine_ast.specs.Rules.{sizes_positive, shape_within, is_memref_of, binding_is_memref_of}
use Rattle.affine_ast.specs.Scope.{Binding, Variable, Symbol, IndexConstant, Data, MemrefArgument, Allocation, Scope, Around, behind_plain}
use Rattle.affine_ast.specs.Sizes.{product}
use Rattle.affine_ast.specs.Validity.{binding_of_kind}
use Rattle.affine_ast.proofs.Names.{put-same, put-other}
use Rattle.direct_meaning.specs.Actions.{is_fast}
use Rattle.shape_rules.proofs.Products.{positive_parts, product_positive}
use Rattle.valid_laws.proofs.Passing.{Holds}
use Rattle.valid_laws.proofs.Counted.{alloc_holds}
use Rattle.valid_laws.proofs.Scoped.{SameType, type_same}
use Rattle.printed_texts.specs.Writable.{AllSmall, TypeFits, KindFits}

-- ---- an allocation
small_sizes : (ns : List ℕ) (k : ℕ) → sizes_positive ns ≡ true → product ns * k ≤ 4294967295 → 1 ≤ k → AllSmall ns
small_sizes [] k h p q = tt
small_sizes (n ∷ ns) k h p q =
    let two = positive_parts n ns h in
    let some = product_positive ns two.1 in
    let one = le-mul_of_pos_right n some in
    let more = le-mul_of_pos_right (n * product ns) q in
    let less = mul-le-mul_right (product ns) two.0 in
    let least = mul-le-mul_right k less in
    (omega (arith, one, more, p), small_sizes ns k two.1 (omega (arith, least, p)) q)

fast_space : (b : Bool) (ty : MemrefType) → is_fast ty ≡ b → ((is_fast ty ≡ false) → ty.space ≡ 2) → ty.space ≤ 255
fast_space true ty e h = let k : ty.space ≡ 1 = grind (arith, e) in omega (arith, k)
fast_space false ty e h = let k = h e in omega (arith, k)

pub alloc_fits : (a : Around) (r : Name) (ty : MemrefType) (rest : Nest) → Holds a (Alloc r ty) rest → TypeFits ty
unfolding shape_within
alloc_fits a r ty rest h =
    let k = alloc_holds a r ty rest h in
    let total = k.elements in
    record {
      sizes = small_sizes ty.sizes 1 (and_parts _ _ k.shape).0 (omega (arith, total)) (omega arith);
      space = fast_space (is_fast ty) ty refl k.space;
    }

-- ---- what is in scope
abbrev pub BindingFits : Option Binding → Type 0
BindingFits (Some (MemrefArgument ty)) = TypeFits ty
BindingFits (Some (Allocation ty)) = TypeFits ty
BindingFits b = Unit {0}

abbrev pub ScopeFits : Scope → Type 0
ScopeFits s = (n : Name) → BindingFits (s n)

pub put_fits : (s : Scope) (r : Name) (b : Option Binding) → BindingFits b → ScopeFits s → ScopeFits (put s r b)
put_fits s r b f h n = by (same_name r n) refl
  where
    by : (t : Bool) → same_name r n ≡ t → BindingFits (put s r b n)
    by true t = subst BindingFits (sym (put-same s r b n t)) f
    by false t = subst BindingFits (sym (put-other s r b n t)) (h n)

same_fits : (a b : MemrefType) → SameType a b → TypeFits a → TypeFits b
same_fits a b same f = record { sizes = subst AllSmall same.sizes f.sizes; space = subst (λ n. n ≤ 255) same.space f.space }

binding_fits : (b : Option Binding) (ty : MemrefType) → BindingFits b → binding_is_memref_of b ty ≡ true → TypeFits ty
binding_fits None ty f h = absurd (let z : ⊥ = cc in z)
binding_fits (Some (Variable r)) ty f h = absurd (let z : ⊥ = cc in z)
binding_fits (Some (Symbol r)) ty f h = absurd (let z : ⊥ = cc in z)
binding_fits (Some (IndexConstant k)) ty f h = absurd (let z : ⊥ = cc in z)
binding_fits (Some (Data of)) ty f h = absurd (let z : ⊥ = cc in z)
binding_fits (Some (MemrefArgument of)) ty f h = same_fits of ty (type_same of ty h) f
binding_fits (Some (Allocation of)) ty f h = same_fits of ty (type_same of ty h) f

pub memref_fits : (s : Scope) (m : Name) (ty : MemrefType) → ScopeFits s → is_memref_of s m ty ≡ true → TypeFits ty
unfolding is_memref_of
memref_fits s m ty f h = binding_fits (s m) ty (f m) h

kind_fits : (k : ArgKind) → KindFits k → BindingFits (Some (binding_of_kind k))
kind_fits (kind.Memref ty) f = f
kind_fits (kind.Index None) f = tt
kind_fits (kind.Index (Some r)) f = tt

pub argument_fits : (s : Scope) (n : Name) (k : ArgKind) → KindFits k → ScopeFits s → ScopeFits (put s n (Some (binding_of_kind k)))
argument_fits s n k f h = put_fits s n (Some (binding_of_kind k)) (kind_fits k f) h

pub behind_fits : (p : Plain) (a : Around) (rest : Nest) → Holds a p rest → ScopeFits a.scope → ScopeFits (behind_plain p a).scope
behind_fits (Value r pick at) a rest k h = put_fits a.scope r _ tt h
behind_fits (Load r m at ty) a rest k h = put_fits a.scope r _ tt h
behind_fits (Store x m at ty) a rest k h = h
behind_fits (RawLoad r m at ty) a rest k h = put_fits a.scope r _ tt h
behind_fits (RawStore x m at ty) a rest k h = h
behind_fits (Constant r z (Int e)) a rest k h = put_fits a.scope r _ tt h
behind_fits (Constant r z Index) a rest k h = put_fits a.scope r _ tt h
behind_fits (Binary r op x y ty) a rest k h = put_fits a.scope r _ tt h
behind_fits (Cast r kind x from to) a rest k h = put_fits a.scope r _ tt h
behind_fits (Alloc r ty) a rest k h = put_fits a.scope r _ (alloc_fits a r ty rest k) h
behind_fits (Dealloc m ty) a rest k h = h
behind_fits (Start x x_at y y_at t t_at n stride types) a rest k h = h
behind_fits (Wait t at n ty) a rest k h = h
behind_fits Return a rest k h = h
