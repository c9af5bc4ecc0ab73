-- Where the actions of a valid text are made, an allocation's name stands for a fast memref or for tags, by its type.
use Rattle.std.proofs.Common.{◌≡◌, suc, ◌+◌, Bool, true, false, refl, sym, ap, ◌∙◌, subst}
use Rattle.std.specs.Prelude.{nat_eq, Option, Some, None, if◌then◌else◌}
use Rattle.std.proofs.lemmas.Bool.{and_parts}
use Rattle.affine_ast.specs.declared.name.Name.{Name}
use Rattle.affine_ast.specs.declared.types.MemrefType.{MemrefType}
use Rattle.affine_ast.specs.declared.types.Scalar.TheVariants as scalar
use Rattle.affine_ast.specs.Names.{same_name, put}
use Rattle.affine_ast.proofs.Names.{put-same, put-other}
use Rattle.affine_ast.specs.Nest.{Plain, Nest, Nothing, Loop, Branch, Does, Value, Load, Store, RawLoad, RawStore, Constant, Binary, Cast, Alloc, Dealloc, Start, Wait, Return}
use Rattle.affine_ast.specs.Rules.{is_memref_of, binding_is_memref_of, is_allocation, is_allocated, is_live}
use Rattle.affine_ast.specs.Scope.{Binding, Allocation, Scope, Totals, Around, counted, in_loop, in_condition, with_totals, behind_plain}
use Rattle.affine_ast.specs.Sizes.{product}
use Rattle.affine_ast.specs.Validity.{Passed, then_told, told, rule_of_plain, rule_of_loop, rule_of_condition}
use Rattle.direct_meaning.specs.Action.{Home, FastMemref, TagMemref}
use Rattle.direct_meaning.specs.Actions.{is_fast, after_plain, behind}
use Rattle.direct_meaning.specs.Static.{Env, knows}
use Rattle.valid_laws.proofs.Passing.{Holds, judged_passed, then_passed, plain_holds}
use Rattle.valid_laws.proofs.Scoped.{type_same}
use Rattle.box_run_laws.specs.Peaks.{HomeIs, PlainMatches, Matches}
use Rattle.peak_laws.proofs.Names.{both, allocation_is}

abbrev pub Kinds : Scope → Env → Type 0
Kinds s e = (m : Name) (ty : MemrefType) → s m ≡ Some (Allocation ty) → HomeIs (e.home m) (is_fast ty)

-- a name of another kind
kinds_put : (s : Scope) (e : Env) (n : Name) (b : Option Binding) → is_allocation b ≡ false → Kinds s e → Kinds (put s n b) e
kinds_put s e n b none h m ty i = by (same_name n m) refl
  where
    by : (t : Bool) → same_name n m ≡ t → HomeIs (e.home m) (is_fast ty)
    by true t = absurd (both (is_allocation b) (ap is_allocation (sym (put-same s n b m t) ∙ i)) none)
    by false t = h m ty (sym (put-other s n b m t) ∙ i)

-- an allocation
abbrev type_of : Option Binding → Option MemrefType
type_of (Some (Allocation ty)) = Some ty
type_of b = None

abbrev fast_of : Option MemrefType → Bool
fast_of (Some ty) = is_fast ty
fast_of None = false

kinds_alloc : (s : Scope) (e : Env) (r : Name) (of : MemrefType) → Kinds s e → Kinds (put s r (Some (Allocation of))) (after_plain (Alloc r of) e)
unfolding after_plain
kinds_alloc s e r of h m ty i = by (same_name r m) refl (is_fast of) refl
  where
    home_of : Bool → Option Home
    home_of f = (if f then record e { home = put e.home r (Some (FastMemref e.fasts)); fasts = suc e.fasts } else record e { home = put e.home r (Some (TagMemref e.tags)); tags = e.tags + product of.sizes }).home m

    is_same : same_name r m ≡ true → is_fast of ≡ is_fast ty
    is_same t = ap fast_of (ap type_of (sym (put-same s r (Some (Allocation of)) m t) ∙ i))

    by : (t : Bool) → same_name r m ≡ t → (f : Bool) → is_fast of ≡ f → HomeIs (home_of (is_fast of)) (is_fast ty)
    by true t true f = subst (λ b. HomeIs (home_of b) (is_fast ty)) (sym f) (subst (λ o. HomeIs o (is_fast ty)) (sym (put-same e.home r (Some (FastMemref e.fasts)) m t)) (sym (is_same t) ∙ f))
    by true t false f = subst (λ b. HomeIs (home_of b) (is_fast ty)) (sym f) (subst (λ o. HomeIs o (is_fast ty)) (sym (put-same e.home r (Some (TagMemref e.tags)) m t)) (sym (is_same t) ∙ f))
    by false t true f = subst (λ b. HomeIs (home_of b) (is_fast ty)) (sym f) (subst (λ o. HomeIs o (is_fast ty)) (sym (put-other e.home r (Some (FastMemref e.fasts)) m t)) (h m ty (sym (put-other s r (Some (Allocation of)) m t) ∙ i)))
    by false t false f = subst (λ b. HomeIs (home_of b) (is_fast ty)) (sym f) (subst (λ o. HomeIs o (is_fast ty)) (sym (put-other e.home r (Some (TagMemref e.tags)) m t)) (h m ty (sym (put-other s r (Some (Allocation of)) m t) ∙ i)))

kinds_behind : (a : Around) (p : Plain) (e : Env) → Kinds a.scope e → Kinds (behind_plain p (counted a)).scope (after_plain p e)
unfolding after_plain
kinds_behind a (Value r pick at) e h = kinds_put a.scope e r _ refl h
kinds_behind a (Load r x at ty) e h = kinds_put a.scope e r _ refl h
kinds_behind a (Store x y at ty) e h = h
kinds_behind a (RawLoad r x at ty) e h = kinds_put a.scope e r _ refl h
kinds_behind a (RawStore x y at ty) e h = h
kinds_behind a (Constant r z (scalar.Int element)) e h = kinds_put a.scope e r _ refl h
kinds_behind a (Constant r z scalar.Index) e h = kinds_put a.scope e r _ refl h
kinds_behind a (Binary r op x y ty) e h = kinds_put a.scope e r _ refl h
kinds_behind a (Cast r kind x from to) e h = kinds_put a.scope e r _ refl h
kinds_behind a (Alloc r ty) e h = kinds_alloc a.scope e r ty h
kinds_behind a (Dealloc x ty) e h = h
kinds_behind a (Start x xa y ya t ta n stride types) e h = h
kinds_behind a (Wait t at n ty) e h = h
kinds_behind a Return e h = h

-- a dealloc's type is that of what it names
plain_matches : (a : Around) (p : Plain) (rest : Nest) (e : Env) → Holds (counted a) p rest → Kinds a.scope e → PlainMatches p e
unfolding is_memref_of is_allocated
plain_matches a (Dealloc m written) rest e k h =
    let i = allocation_is (a.scope m) (and_parts (is_allocated a.scope m) (is_live (counted a) m) k.spaces).0 in
    let t = sym (ap (λ b. binding_is_memref_of b written) i.1) ∙ k.types in
    subst (HomeIs (e.home m)) (ap (λ n. nat_eq n 1) (type_same i.0 written t).space) (h m i.0 i.1)
plain_matches a (Value r pick at) rest e k h = tt
plain_matches a (Load r x at ty) rest e k h = tt
plain_matches a (Store x y at ty) rest e k h = tt
plain_matches a (RawLoad r x at ty) rest e k h = tt
plain_matches a (RawStore x y at ty) rest e k h = tt
plain_matches a (Constant r z ty) rest e k h = tt
plain_matches a (Binary r op x y ty) rest e k h = tt
plain_matches a (Cast r kind x from to) rest e k h = tt
plain_matches a (Alloc r ty) rest e k h = tt
plain_matches a (Start x xa y ya t ta n stride types) rest e k h = tt
plain_matches a (Wait t at n ty) rest e k h = tt
plain_matches a Return rest e k h = tt

pub all_match : (n : Nest) (a : Around) (t : Totals) (e : Env) → told n a ≡ Passed t → Kinds a.scope e → Matches n e
unfolding told
all_match Nothing a t e q h = tt
all_match (Loop line x l u s body rest) a t e q h =
    let j = judged_passed line (rule_of_loop (counted a) x l u s) _ t q in
    let p = then_passed (told body (in_loop x l u (counted a))) (λ t. told rest (with_totals t a)) t j.1 in (
      (λ z. all_match body (in_loop x l u (counted a)) p.0 (knows e x z) p.1 (kinds_put a.scope (knows e x z) x _ refl h)),
      all_match rest (with_totals p.0 a) t (behind body e) p.2 h,
    )
all_match (Branch line set names first has other rest) a t e q h =
    let j = judged_passed line (rule_of_condition (counted a) set names) _ t q in
    let p = then_passed (told first (in_condition (counted a))) (λ t. then_told (told other (in_condition (with_totals t a))) (λ u. told rest (with_totals u a))) t j.1 in
    let w = then_passed (told other (in_condition (with_totals p.0 a))) (λ u. told rest (with_totals u a)) t p.2 in (
      all_match first (in_condition (counted a)) p.0 e p.1 h,
      all_match other (in_condition (with_totals p.0 a)) w.0 (behind first e) w.1 h,
      all_match rest (with_totals w.0 a) t (behind other (behind first e)) w.2 h,
    )
all_match (Does line p rest) a t e q h =
    let j = judged_passed line (rule_of_plain (counted a) p rest) _ t q in
    (plain_matches a p rest e (plain_holds (counted a) p rest j.0) h, all_match rest (behind_plain p (counted a)) t (after_plain p e) j.1 (kinds_behind a p e h))
