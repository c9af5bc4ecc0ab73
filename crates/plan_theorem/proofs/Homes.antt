-- What a memref argument stands for, by what stands before it.
use Rattle.std.proofs.Common.{◌≡◌, ◌⊎◌, inl, inr, ℕ, ◌+◌, ℤ, List, [], ◌∷◌, Bool, true, false, Some, refl, ap, ◌∙◌, arith}
use Rattle.std.specs.Prelude.{fold, if◌then◌else◌}
use Rattle.affine_ast.specs.declared.module.Arg.{Arg}
use Rattle.affine_ast.specs.declared.module.ArgKind.{ArgKind}
use Rattle.affine_ast.specs.declared.module.ArgKind.TheVariants as kind
use Rattle.affine_ast.specs.declared.name.Name.{Name}
use Rattle.affine_ast.specs.declared.types.MemrefType.{MemrefType}
use Rattle.affine_ast.specs.Names.{same_name}
use Rattle.affine_ast.proofs.Names.{same_name-eq, put-same, put-other}
use Rattle.affine_ast.specs.Scope.{Binding, Around}
use Rattle.affine_ast.specs.Validity.{outside, binding_of_kind, behind_argument}
use Rattle.direct_meaning.specs.Action.{SlowMemref}
use Rattle.direct_meaning.specs.Memory.{Placed, place_kind, place_arg, empty_env, start_env}
use Rattle.valid_laws.proofs.SafeStart.{ArgumentsHold}
use Rattle.placement_texts.specs.Valid.{HasArgument}
use Rattle.placement_texts.proofs.ScopedTexts.{new_apart}
use Rattle.plan_laws.specs.Plan.{type_of_kind, type_of, memrefs_in, elements_in, memrefs_before, elements_before}

kind_is : (k : ArgKind) (ty : MemrefType) → type_of_kind k ≡ Some ty → k ≡ kind.Memref ty
kind_is (kind.Memref of) ty h = let same : of ≡ ty = cc in ap kind.Memref same
kind_is (kind.Index r) ty h = absurd (let z : ⊥ = cc in z)

pub has_argument : (args : List Arg) (m : Name) (ty : MemrefType) → type_of args m ≡ Some ty → HasArgument args m (kind.Memref ty)
has_argument [] m ty h = absurd (let z : ⊥ = cc in z)
has_argument (arg ∷ args) m ty h = by (same_name arg.name m) refl (has_argument args m ty) h
  where
    by : (t : Bool) → same_name arg.name m ≡ t → (type_of args m ≡ Some ty → HasArgument args m (kind.Memref ty)) → (if t then type_of_kind arg.kind else type_of args m) ≡ Some ty
        → ((arg.name ≡ m) × (arg.kind ≡ kind.Memref ty)) ⊎ HasArgument args m (kind.Memref ty)
    by true e more h = inl (same_name-eq arg.name m e, kind_is arg.kind ty h)
    by false e more h = inr (more h)

-- one argument more, of another name
kind_home : (k : ArgKind) (name : Name) (p : Placed) (m : Name) → same_name name m ≡ false → (place_kind k name p).env.home m ≡ p.env.home m
kind_home (kind.Memref ty) name p m h = put-other p.env.home name _ m h
kind_home (kind.Index range) name p m h = refl

-- what is in scope keeps what it stands for
stays_home : (args : List Arg) (a : Around) (p : Placed) (m : Name) (b : Binding) → ArgumentsHold args a → a.scope m ≡ Some b → (fold place_arg p args).env.home m ≡ p.env.home m
stays_home [] a p m b hold h = refl
stays_home (arg ∷ args) a p m b hold h =
    let other = new_apart a arg.name m b hold.0.new_name h in
    stays_home args (behind_argument arg.name arg.kind a) (place_kind arg.kind arg.name p) m b hold.1 (put-other a.scope arg.name (Some (binding_of_kind arg.kind)) m other ∙ h) ∙ kind_home arg.kind arg.name p m other

kind_memrefs : (k : ArgKind) (name : Name) (p : Placed) → (place_kind k name p).memrefs ≡ p.memrefs + memrefs_in k
kind_memrefs (kind.Memref ty) name p = omega arith
kind_memrefs (kind.Index range) name p = omega arith

kind_elements : (k : ArgKind) (name : Name) (p : Placed) → (place_kind k name p).elements ≡ p.elements + elements_in k
kind_elements (kind.Memref ty) name p = refl
kind_elements (kind.Index range) name p = omega arith

home_at : (args : List Arg) (a : Around) (p : Placed) (m : Name) (ty : MemrefType) → ArgumentsHold args a → type_of args m ≡ Some ty
    → (order first : ℕ) → order ≡ p.memrefs + memrefs_before args m → first ≡ p.elements + elements_before args m → (fold place_arg p args).env.home m ≡ Some (SlowMemref order first)
home_at [] a p m ty hold h order first eo ef = absurd (let z : ⊥ = cc in z)
home_at (arg ∷ args) a p m ty hold h order first eo ef =
    by (same_name arg.name m) refl (λ h order first eo ef. home_at args (behind_argument arg.name arg.kind a) (place_kind arg.kind arg.name p) m ty hold.1 h order first eo ef) h eo ef
  where
    here : (k : ArgKind) → arg.kind ≡ k → same_name arg.name m ≡ true → type_of_kind k ≡ Some ty → order ≡ p.memrefs + 0 → first ≡ p.elements + 0 → (place_kind k arg.name p).env.home m ≡ Some (SlowMemref order first)
    here (kind.Memref of) is e h eo ef =
        let o : p.memrefs ≡ order = omega (arith, eo) in
        let f : p.elements ≡ first = omega (arith, ef) in
        put-same p.env.home arg.name (Some (SlowMemref p.memrefs p.elements)) m e ∙ (λ i. Some (SlowMemref (o i) (f i)))
    here (kind.Index r) is e h eo ef = absurd (let z : ⊥ = cc in z)

    by : (t : Bool) → same_name arg.name m ≡ t
        → (type_of args m ≡ Some ty → (order first : ℕ) → order ≡ (place_kind arg.kind arg.name p).memrefs + memrefs_before args m → first ≡ (place_kind arg.kind arg.name p).elements + elements_before args m → (fold place_arg (place_kind arg.kind arg.name p) args).env.home m ≡ Some (SlowMemref order first))
        → (if t then type_of_kind arg.kind else type_of args m) ≡ Some ty → order ≡ p.memrefs + (if t then 0 else memrefs_in arg.kind + memrefs_before args m) → first ≡ p.elements + (if t then 0 else elements_in arg.kind + elements_before args m)
        → (fold place_arg (place_kind arg.kind arg.name p) args).env.home m ≡ Some (SlowMemref order first)
    by true e more h eo ef =
        stays_home args (behind_argument arg.name arg.kind a) (place_kind arg.kind arg.name p) m (binding_of_kind arg.kind) hold.1 (put-same a.scope arg.name (Some (binding_of_kind arg.kind)) m e)
        ∙ here arg.kind refl e h eo ef
    by false e more h eo ef =
        let km = kind_memrefs arg.kind arg.name p in
        let ke = kind_elements arg.kind arg.name p in
        more h order first (omega (arith, eo, km)) (omega (arith, ef, ke))

pub home_is : (args : List Arg) (symbols : List ℤ) (m : Name) (ty : MemrefType) → ArgumentsHold args outside → type_of args m ≡ Some ty → (start_env args symbols).home m ≡ Some (SlowMemref (memrefs_before args m) (elements_before args m))
unfolding start_env
home_is args symbols m ty hold h =
    home_at args outside (record { env = empty_env; memrefs = 0; elements = 0; symbols = symbols }) m ty hold h (memrefs_before args m) (elements_before args m) (omega arith) (omega arith)
