-- In a valid text an access of a memref of another name goes to none of an argument's slow places.
use Rattle.std.proofs.Common.{◌≡◌, ◌⊎◌, inl, inr, ℕ, suc, ◌+◌, ◌<◌, ◌≤◌, ℤ, List, [], ◌∷◌, refl, sym, ap, ◌∙◌, subst, arith, Bool, true, false}
use Rattle.std.specs.Prelude.{not, ◌&&◌, Option, Some, None, is_some, nat_le, nat_lt, fold, if◌then◌else◌}
use Rattle.std.proofs.lemmas.Bool.{and_parts}
use Rattle.affine_ast.specs.declared.module.Arg.{Arg}
use Rattle.affine_ast.specs.declared.module.ArgKind.{ArgKind}
use Rattle.affine_ast.specs.declared.module.ArgKind.TheVariants as kind
use Rattle.affine_ast.specs.declared.name.Name.{Name}
use Rattle.affine_ast.specs.declared.types.Access.{Access}
use Rattle.affine_ast.specs.declared.types.MemrefType.{MemrefType}
use Rattle.affine_ast.specs.declared.types.Scalar.TheVariants as scalar
use Rattle.affine_ast.specs.Names.{same_name, put}
use Rattle.affine_ast.proofs.Names.{put-same, put-other, same_name-eq, same_name-is, same_name-sym}
use Rattle.affine_ast.specs.Nest.{Plain, Nest, Nothing, Loop, Branch, Does, Value, Load, Store, RawLoad, RawStore, Constant, Binary, Cast, Alloc, Dealloc, Start, Wait, Return, nest}
use Rattle.affine_ast.specs.Rules.{is_in, is_new, binding_is_memref_of, is_memref_of}
use Rattle.affine_ast.specs.Scope.{Binding, Variable, Symbol, IndexConstant, Data, MemrefArgument, Allocation, Scope, Totals, Around, with_totals, counted, in_loop, in_condition, behind_plain}
use Rattle.affine_ast.specs.Sizes.{product}
use Rattle.affine_ast.specs.Validity.{Passed, then_told, rule_of_plain, rule_of_loop, rule_of_condition, told, binding_of_kind, behind_argument, told_arguments, told_module, outside, first_broken}
use Rattle.direct_meaning.specs.Action.{Home, SlowMemref, FastMemref, TagMemref, Place, Slow}
use Rattle.direct_meaning.specs.Actions.{is_fast, after_plain, behind}
use Rattle.direct_meaning.specs.Memory.{Placed, place_kind, place_arg, empty_env, start_env}
use Rattle.direct_meaning.specs.Static.{Env, knows, within, cell_in, slow_at, fast_at, half_place, place_at, place_of, results_of, lower_of, upper_of}
use Rattle.direct_meaning.specs.Turns.{turns}
use Rattle.valid_laws.proofs.Passing.{judged_passed, then_passed, Holds, plain_holds, loop_holds, passed_of}
use Rattle.valid_laws.proofs.SafeStart.{behind_arguments, ArgumentsHold, arguments_hold}
use Rattle.valid_laws.proofs.Scoped.{type_same}
use Rattle.placement_texts.specs.Boxes.{is_of}
use Rattle.boxes.specs.Every.{Every}
use Rattle.placement_texts.specs.Each.{Each}
use Rattle.placement_texts.specs.Regions.{Elsewhere, Apart}
use Rattle.placement_texts.specs.Template.{slow_type}
use Rattle.placement_texts.specs.Spots.{stage_one}
use Rattle.placement_texts.specs.Valid.{HasArgument, ValidIsApart, Passes, PassingIsApart}
use Rattle.placement_texts.proofs.Cells.{cell_less}
use Rattle.placement_texts.proofs.ScopedTexts.{new_apart}
use Rattle.placement_texts.proofs.StagedValid.{arguments_told}

every_one : {A : Type 0} (P : A → Type 0) → ((x : A) → P x) → (xs : List A) → Every P xs
every_one P h [] = tt
every_one P h (x ∷ xs) = (h x, every_one P h xs)

-- ---- what is known at the start

-- the slow places of two memrefs
abbrev pub Beside : ℕ → List ℕ → ℕ → List ℕ → Type 0
Beside f sizes f' sizes' = (f + product sizes ≤ f') ⊎ (f' + product sizes' ≤ f)

-- memref arguments lie below so many places, beside one another
pub record Laid (s : Scope) (home : Name → Option Home) (elements : ℕ) : Type 0 where
  pub below : (n : Name) (ty : MemrefType) → s n ≡ Some (MemrefArgument ty) → (o f : ℕ) × (home n ≡ Some (SlowMemref o f)) × (f + product ty.sizes ≤ elements)
  pub apart : (n n' : Name) (ty ty' : MemrefType) (o f o' f' : ℕ) → s n ≡ Some (MemrefArgument ty) → s n' ≡ Some (MemrefArgument ty') → home n ≡ Some (SlowMemref o f) → home n' ≡ Some (SlowMemref o' f')
      → same_name n n' ≡ false → Beside f ty.sizes f' ty'.sizes

abbrev first_of : Option Home → ℕ
first_of (Some (SlowMemref o f)) = f
first_of h = 0

abbrev type_of : Option Binding → MemrefType → MemrefType
type_of (Some (MemrefArgument ty)) other = ty
type_of b other = other

some_type : (ty ty' : MemrefType) → Some (MemrefArgument ty) ≡ Some (MemrefArgument ty') → ty ≡ ty'
some_type ty ty' h = ap (λ b. type_of b ty) h

some_first : (o f o' f' : ℕ) → Some (SlowMemref o f) ≡ Some (SlowMemref o' f') → f ≡ f'
some_first o f o' f' h = ap first_of h

-- a memref argument more
module _ (s : Scope) (home : Name → Option Home) (elements : ℕ) (l : Laid s home elements) (name : Name) (number : ℕ) (of : MemrefType) where
  abbrev S : Scope
  S = put s name (Some (MemrefArgument of))

  abbrev H : Name → Option Home
  H = put home name (Some (SlowMemref number elements))

  memref_below : (n : Name) (ty : MemrefType) → S n ≡ Some (MemrefArgument ty) → (o f : ℕ) × (H n ≡ Some (SlowMemref o f)) × (f + product ty.sizes ≤ elements + product of.sizes)
  memref_below n ty h = by (same_name name n) refl
    where
      by : (t : Bool) → same_name name n ≡ t → (o f : ℕ) × (H n ≡ Some (SlowMemref o f)) × (f + product ty.sizes ≤ elements + product of.sizes)
      by true e =
          let is = some_type of ty (sym (put-same s name (Some (MemrefArgument of)) n e) ∙ h) in
          (number, elements, put-same home name (Some (SlowMemref number elements)) n e, subst (λ (x : MemrefType). elements + product x.sizes ≤ elements + product of.sizes) is (omega arith))
      by false e =
          let old = l.below n ty (sym (put-other s name (Some (MemrefArgument of)) n e) ∙ h) in
          let less = old.3 in
          (old.0, old.1, put-other home name (Some (SlowMemref number elements)) n e ∙ old.2, omega (arith, less))

  memref_apart : (n n' : Name) (ty ty' : MemrefType) (o f o' f' : ℕ) → S n ≡ Some (MemrefArgument ty) → S n' ≡ Some (MemrefArgument ty') → H n ≡ Some (SlowMemref o f) → H n' ≡ Some (SlowMemref o' f')
      → same_name n n' ≡ false → Beside f ty.sizes f' ty'.sizes
  memref_apart n n' ty ty' o f o' f' h h' k k' differ = by (same_name name n) (same_name name n') refl refl
    where
      by : (t t' : Bool) → same_name name n ≡ t → same_name name n' ≡ t' → Beside f ty.sizes f' ty'.sizes
      by true true e e' = let z : true ≡ false = sym (same_name-is n n' (sym (same_name-eq name n e) ∙ same_name-eq name n' e')) ∙ differ in absurd (cc)
      by true false e e' =
          let old = l.below n' ty' (sym (put-other s name (Some (MemrefArgument of)) n' e') ∙ h') in
          let is = some_first number elements o f (sym (put-same home name (Some (SlowMemref number elements)) n e) ∙ k) in
          let is' = some_first old.0 old.1 o' f' (sym (put-other home name (Some (SlowMemref number elements)) n' e' ∙ old.2) ∙ k') in
          let less = old.3 in
          inr (omega (arith, is, is', less))
      by false true e e' =
          let old = l.below n ty (sym (put-other s name (Some (MemrefArgument of)) n e) ∙ h) in
          let is = some_first number elements o' f' (sym (put-same home name (Some (SlowMemref number elements)) n' e') ∙ k') in
          let is' = some_first old.0 old.1 o f (sym (put-other home name (Some (SlowMemref number elements)) n e ∙ old.2) ∙ k) in
          let less = old.3 in
          inl (omega (arith, is, is', less))
      by false false e e' =
          l.apart n n' ty ty' o f o' f' (sym (put-other s name (Some (MemrefArgument of)) n e) ∙ h) (sym (put-other s name (Some (MemrefArgument of)) n' e') ∙ h')
          (sym (put-other home name (Some (SlowMemref number elements)) n e) ∙ k) (sym (put-other home name (Some (SlowMemref number elements)) n' e') ∙ k') differ

  memref_laid : Laid S H (elements + product of.sizes)
  memref_laid = record { below = memref_below; apart = memref_apart }

abbrev get : Binding → Option Binding → Binding
get b (Some x) = x
get b None = b

-- a name more that is no memref argument
other_laid : (s : Scope) (home : Name → Option Home) (elements : ℕ) (name : Name) (b : Binding) → ((ty : MemrefType) → b ≡ MemrefArgument ty → ⊥) → Laid s home elements → Laid (put s name (Some b)) home elements
other_laid s home elements name b isnt l = record {
  below = λ n ty h. l.below n ty (old n ty h);
  apart = λ n n' ty ty' o f o' f' h h' k k' differ. l.apart n n' ty ty' o f o' f' (old n ty h) (old n' ty' h') k k' differ;
}
  where
    old : (n : Name) (ty : MemrefType) → put s name (Some b) n ≡ Some (MemrefArgument ty) → s n ≡ Some (MemrefArgument ty)
    old n ty h = by (same_name name n) refl
      where
        by : (t : Bool) → same_name name n ≡ t → s n ≡ Some (MemrefArgument ty)
        by true e = absurd (isnt ty (ap (get b) (sym (put-same s name (Some b) n e) ∙ h)))
        by false e = sym (put-other s name (Some b) n e) ∙ h

-- ---- what is known on the way

abbrev pub NoSlow : Option Home → Type 0
NoSlow (Some (SlowMemref o f)) = ⊥
NoSlow h = Unit {0}

-- a memref argument stands for what it stood for at the start; no other name stands for a slow memref
abbrev pub IsBased : Option Binding → Option Home → Option Binding → Option Home → Type 0
IsBased (Some (MemrefArgument ty)) home b0 home0 = (home ≡ home0) × (b0 ≡ Some (MemrefArgument ty))
IsBased b home b0 home0 = NoSlow home

module _ (s0 : Scope) (home0 : Name → Option Home) where
  abbrev pub Based : Scope → (Name → Option Home) → Type 0
  Based s home = (n : Name) → IsBased (s n) (home n) (s0 n) (home0 n)

  abbrev IsPlain : Binding → Type 0
  IsPlain (MemrefArgument ty) = ⊥
  IsPlain b = Unit {0}

  based_plain : (b : Binding) (h : Option Home) (b0 : Option Binding) (h0 : Option Home) → IsPlain b → NoSlow h → IsBased (Some b) h b0 h0
  based_plain (Variable r) h b0 h0 p k = k
  based_plain (Symbol r) h b0 h0 p k = k
  based_plain (IndexConstant z) h b0 h0 p k = k
  based_plain (Data ty) h b0 h0 p k = k
  based_plain (MemrefArgument ty) h b0 h0 p k = absurd p
  based_plain (Allocation ty) h b0 h0 p k = k

  none_slow : (s : Scope) (home : Name → Option Home) (r : Name) → is_new s r ≡ true → Based s home → NoSlow (home r)
  unfolding is_in
  none_slow s home r new b = by (s r) refl (b r)
    where
      by : (x : Option Binding) → s r ≡ x → IsBased x (home r) (s0 r) (home0 r) → NoSlow (home r)
      by None e k = k
      by (Some x) e k = let z : true ≡ false = sym new ∙ ap (λ y. not (is_some y)) e in absurd (cc)

  -- a value comes into scope
  pub based_name : (s : Scope) (home : Name → Option Home) (r : Name) (x : Binding) → IsPlain x → is_new s r ≡ true → Based s home → Based (put s r (Some x)) home
  based_name s home r x p new b n = by (same_name r n) refl
    where
      by : (t : Bool) → same_name r n ≡ t → IsBased (put s r (Some x) n) (home n) (s0 n) (home0 n)
      by true e =
          subst (λ y. IsBased y (home n) (s0 n) (home0 n)) (sym (put-same s r (Some x) n e))
          (based_plain x (home n) (s0 n) (home0 n) p (subst (λ m. NoSlow (home m)) (same_name-eq r n e) (none_slow s home r new b)))
      by false e = subst (λ y. IsBased y (home n) (s0 n) (home0 n)) (sym (put-other s r (Some x) n e)) (b n)

  -- and an allocation
  based_alloc : (s : Scope) (home : Name → Option Home) (r : Name) (ty : MemrefType) (h : Home) → NoSlow (Some h) → Based s home → Based (put s r (Some (Allocation ty))) (put home r (Some h))
  based_alloc s home r ty h p b n = by (same_name r n) refl
    where
      by : (t : Bool) → same_name r n ≡ t → IsBased (put s r (Some (Allocation ty)) n) (put home r (Some h) n) (s0 n) (home0 n)
      by true e = subst (λ y. IsBased y (put home r (Some h) n) (s0 n) (home0 n)) (sym (put-same s r (Some (Allocation ty)) n e)) (subst NoSlow (sym (put-same home r (Some h) n e)) p)
      by false e =
          subst (λ y. IsBased y (put home r (Some h) n) (s0 n) (home0 n)) (sym (put-other s r (Some (Allocation ty)) n e))
          (subst (λ y. IsBased (s n) y (s0 n) (home0 n)) (sym (put-other home r (Some h) n e)) (b n))

  alloc_by : (t : Bool) (s : Scope) (e : Env) (r : Name) (ty : MemrefType) → Based s e.home
      → Based (put s r (Some (Allocation ty))) (if t then record e { home = put e.home r (Some (FastMemref e.fasts)); fasts = suc e.fasts } else record e { home = put e.home r (Some (TagMemref e.tags)); tags = e.tags + product ty.sizes }).home
  alloc_by true s e r ty b = based_alloc s e.home r ty (FastMemref e.fasts) tt b
  alloc_by false s e r ty b = based_alloc s e.home r ty (TagMemref e.tags) tt b

  pub based_behind : (q : Plain) (a : Around) (e : Env) (rest : Nest) → Holds (counted a) q rest → Based a.scope e.home → Based (behind_plain q (counted a)).scope (after_plain q e).home
  unfolding after_plain
  based_behind (Value r pick at) a e rest h b = based_name a.scope e.home r _ tt h.new_name b
  based_behind (Load r m at ty) a e rest h b = based_name a.scope e.home r _ tt h.new_name b
  based_behind (Store x m at ty) a e rest h b = b
  based_behind (RawLoad r m at ty) a e rest h b = based_name a.scope e.home r _ tt h.new_name b
  based_behind (RawStore x m at ty) a e rest h b = b
  based_behind (Constant r z (scalar.Int element)) a e rest h b = based_name a.scope e.home r _ tt h.new_name b
  based_behind (Constant r z scalar.Index) a e rest h b = based_name a.scope e.home r _ tt h.new_name b
  based_behind (Binary r op x y ty) a e rest h b = based_name a.scope e.home r _ tt h.new_name b
  based_behind (Cast r k x from to) a e rest h b = based_name a.scope e.home r _ tt h.new_name b
  based_behind (Alloc r ty) a e rest h b = alloc_by (is_fast ty) a.scope e r ty b
  based_behind (Dealloc m ty) a e rest h b = b
  based_behind (Start x x_at y y_at t t_at n stride types) a e rest h b = b
  based_behind (Wait t at n ty) a e rest h b = b
  based_behind Return a e rest h b = b

  -- ---- an access
  module _ (elements : ℕ) (laid : Laid s0 home0 elements) (m : Name) (of : MemrefType) (order first : ℕ) (m_is : s0 m ≡ Some (MemrefArgument of)) (m_home : home0 m ≡ Some (SlowMemref order first)) where
    pub outside_memref : (f cell p : ℕ) (sizes : List ℕ) → cell < product sizes → Beside f sizes first of.sizes → f + cell ≡ p → is_of first of.sizes p ≡ false
    outside_memref f cell p sizes less (inl k) e = let t : nat_le first p ≡ false = grind (arith, less, k, e) in ap (λ x. x && nat_lt p (first + product of.sizes)) t
    outside_memref f cell p sizes less (inr k) e = let t : nat_lt p (first + product of.sizes) ≡ false = grind (arith, less, k, e) in ap (λ x. nat_le first p && x) t ∙ and_false (nat_le first p)
      where
        and_false : (x : Bool) → (x && false) ≡ false
        and_false true = refl
        and_false false = refl

    abbrev place_number : Place → ℕ
    place_number (Slow p) = p
    place_number q = 0

    slow_elsewhere : (o : Option ℕ) (f : ℕ) (sizes : List ℕ) (p : ℕ) → ((k : ℕ) → o ≡ Some k → k < product sizes) → Beside f sizes first of.sizes → slow_at f o ≡ Slow p → is_of first of.sizes p ≡ false
    slow_elsewhere (Some cell) f sizes p less b e = outside_memref f cell p sizes (less cell refl) b (ap place_number e)
    slow_elsewhere None f sizes p less b e = absurd (cc)

    half_no_slow : (n : ℕ) (sizes : List ℕ) (zs : List ℤ) (p : ℕ) → half_place n sizes zs ≡ Slow p → ⊥
    half_no_slow n [] zs p e = cc
    half_no_slow n (h ∷ hs) [] p e = cc
    half_no_slow n (h ∷ hs) (z ∷ zs) p e = by (within z h) (cell_in hs zs) e
      where
        by : (x y : Option ℕ) → fast_at n x y ≡ Slow p → ⊥
        by (Some x) (Some y) e = cc
        by (Some x) None e = cc
        by None y e = cc

    no_slow_place : (h : Option Home) (sizes : List ℕ) (zs : List ℤ) (p : ℕ) → NoSlow h → place_at h sizes zs ≡ Slow p → ⊥
    no_slow_place (Some (SlowMemref o f)) sizes zs p k e = k
    no_slow_place (Some (FastMemref n)) sizes zs p k e = half_no_slow n sizes zs p e
    no_slow_place (Some (TagMemref f)) sizes zs p k e = cc
    no_slow_place None sizes zs p k e = cc

    elsewhere : (s : Scope) (e : Env) (n : Name) (at : Access) (ty : MemrefType) → Based s e.home → is_memref_of s n ty ≡ true → same_name m n ≡ false → Elsewhere m first of.sizes e n at ty
    unfolding place_of is_memref_of
    elsewhere s e n at ty b typed differ p is = by (s n) (b n) typed
      where
        by : (x : Option Binding) → IsBased x (e.home n) (s0 n) (home0 n) → binding_is_memref_of x ty ≡ true → is_of first of.sizes p ≡ false
        by (Some (MemrefArgument ty')) k t =
            let old = laid.below n ty' k.1 in
            let same = type_same ty' ty t in
            let home : e.home n ≡ Some (SlowMemref old.0 old.1) = k.0 ∙ old.2 in
            let beside = laid.apart n m ty' of old.0 old.1 order first k.1 m_is old.2 m_home (same_name-sym n m ∙ differ) in
            slow_elsewhere (cell_in ty.sizes (results_of e at)) old.1 ty'.sizes p
            (λ c h. subst (λ xs. c < product xs) (sym same.sizes) (cell_less ty.sizes (results_of e at) c h)) beside
            (ap (λ h. place_at h ty.sizes (results_of e at)) (sym home) ∙ is)
        by (Some (Allocation ty')) k t = absurd (no_slow_place (e.home n) ty.sizes (results_of e at) p k is)
        by (Some (Variable r)) k t = absurd (let z : ⊥ = cc in z)
        by (Some (Symbol r)) k t = absurd (let z : ⊥ = cc in z)
        by (Some (IndexConstant y)) k t = absurd (let z : ⊥ = cc in z)
        by (Some (Data d)) k t = absurd (let z : ⊥ = cc in z)
        by None k t = absurd (let z : ⊥ = cc in z)

    plain_apart : (q : Plain) (a : Around) (e : Env) (rest : Nest) → Holds (counted a) q rest → Based a.scope e.home → Apart m first of.sizes q e
    plain_apart (Load r n at ty) a e rest h b = λ differ. elsewhere a.scope e n at ty b h.types differ
    plain_apart (Store x n at ty) a e rest h b = λ differ. elsewhere a.scope e n at ty b (and_parts _ _ h.types).1 differ
    plain_apart (Value r pick at) a e rest h b = tt
    plain_apart (RawLoad r n at ty) a e rest h b = tt
    plain_apart (RawStore x n at ty) a e rest h b = tt
    plain_apart (Constant r z ty) a e rest h b = tt
    plain_apart (Binary r op x y ty) a e rest h b = tt
    plain_apart (Cast r k x from to) a e rest h b = tt
    plain_apart (Alloc r ty) a e rest h b = tt
    plain_apart (Dealloc n ty) a e rest h b = tt
    plain_apart (Start x x_at y y_at t t_at n stride types) a e rest h b = tt
    plain_apart (Wait t at n ty) a e rest h b = tt
    plain_apart Return a e rest h b = tt

    -- ---- a text
    text_apart : (n : Nest) (a : Around) (e : Env) (t : Totals) → told n a ≡ Passed t → Based a.scope e.home → Each (Apart m first of.sizes) n e
    unfolding told
    text_apart Nothing a e t h b = tt
    text_apart (Loop line v l u step body rest) a e t h b =
        let j = judged_passed line (rule_of_loop (counted a) v l u step) _ t h in
        let k = then_passed (told body (in_loop v l u (counted a))) (λ t. told rest (with_totals t a)) t j.1 in (
          every_one (λ z. Each (Apart m first of.sizes) body (knows e v z)) (λ z. text_apart body (in_loop v l u (counted a)) (knows e v z) k.0 k.1 (based_name a.scope e.home v _ tt (loop_holds (counted a) v l u step j.0).new_name b)) (turns (lower_of e l) (upper_of e u) step),
          text_apart rest (with_totals k.0 a) (behind body e) t k.2 b,
        )
    text_apart (Branch line set ns first_ has other rest) a e t h b =
        let j = judged_passed line (rule_of_condition (counted a) set ns) _ t h in
        let k = then_passed (told first_ (in_condition (counted a))) (λ t. then_told (told other (in_condition (with_totals t a))) (λ u. told rest (with_totals u a))) t j.1 in
        let o = then_passed (told other (in_condition (with_totals k.0 a))) (λ u. told rest (with_totals u a)) t k.2 in
        ((λ is. text_apart first_ (in_condition (counted a)) e k.0 k.1 b), (λ is. text_apart other (in_condition (with_totals k.0 a)) (behind first_ e) o.0 o.1 b), text_apart rest (with_totals o.0 a) (behind other (behind first_ e)) t o.2 b)
    text_apart (Does line q rest) a e t h b =
        let j = judged_passed line (rule_of_plain (counted a) q rest) _ t h in
        let holds = plain_holds (counted a) q rest j.0 in
        (plain_apart q a e rest holds b, text_apart rest (behind_plain q (counted a)) (after_plain q e) t j.1 (based_behind q a e rest holds b))

-- ---- the arguments

-- no name but memref arguments stands for a slow memref
abbrev pub Pure : Option Binding → Option Home → Type 0
Pure (Some (MemrefArgument ty)) h = Unit {0}
Pure b h = NoSlow h

pub record Begun (a : Around) (p : Placed) : Type 0 where
  pub laid : Laid a.scope p.env.home p.elements
  pub pure : (n : Name) → Pure (a.scope n) (p.env.home n)

pub pure_based : (b : Option Binding) (h : Option Home) → Pure b h → IsBased b h b h
pure_based (Some (MemrefArgument ty)) h k = (refl, refl)
pure_based (Some (Variable r)) h k = k
pure_based (Some (Symbol r)) h k = k
pure_based (Some (IndexConstant z)) h k = k
pure_based (Some (Data ty)) h k = k
pure_based (Some (Allocation ty)) h k = k
pure_based None h k = k

pure_none : (x : Option Binding) (h : Option Home) → not (is_some x) ≡ true → Pure x h → NoSlow h
pure_none None h k p = p
pure_none (Some x) h k p = absurd (let z : ⊥ = cc in z)

begun_one : (a : Around) (p : Placed) (name : Name) (k : ArgKind) → is_new a.scope name ≡ true → Begun a p → Begun (behind_argument name k a) (place_kind k name p)
unfolding is_in
begun_one a p name (kind.Memref ty) new b = record {
  laid = memref_laid a.scope p.env.home p.elements b.laid name p.memrefs ty;
  pure = λ n. by n (same_name name n) refl;
}
  where
    by : (n : Name) (t : Bool) → same_name name n ≡ t → Pure (put a.scope name (Some (MemrefArgument ty)) n) (put p.env.home name (Some (SlowMemref p.memrefs p.elements)) n)
    by n true e = subst (λ x. Pure x (put p.env.home name (Some (SlowMemref p.memrefs p.elements)) n)) (sym (put-same a.scope name (Some (MemrefArgument ty)) n e)) tt
    by n false e =
        subst (λ x. Pure x (put p.env.home name (Some (SlowMemref p.memrefs p.elements)) n)) (sym (put-other a.scope name (Some (MemrefArgument ty)) n e))
        (subst (Pure (a.scope n)) (sym (put-other p.env.home name (Some (SlowMemref p.memrefs p.elements)) n e)) (b.pure n))
begun_one a p name (kind.Index range) new b = record {
  laid = other_laid a.scope p.env.home p.elements name _ (λ ty e. let z : ⊥ = cc in z) b.laid;
  pure = λ n. by n (same_name name n) refl;
}
  where
    x : Option Binding
    x = Some (binding_of_kind (kind.Index range))

    by : (n : Name) (t : Bool) → same_name name n ≡ t → Pure (put a.scope name x n) (p.env.home n)
    by n true e =
        subst (λ y. Pure y (p.env.home n)) (sym (put-same a.scope name x n e))
        (subst (λ m. NoSlow (p.env.home m)) (same_name-eq name n e) (pure_none (a.scope name) (p.env.home name) new (b.pure name)))
    by n false e = subst (λ y. Pure y (p.env.home n)) (sym (put-other a.scope name x n e)) (b.pure n)

pub begun_all : (args : List Arg) (a : Around) (p : Placed) → ArgumentsHold args a → Begun a p → Begun (behind_arguments args a) (fold place_arg p args)
begun_all [] a p h b = b
begun_all (arg ∷ args) a p h b = begun_all args (behind_argument arg.name arg.kind a) (place_kind arg.kind arg.name p) h.1 (begun_one a p arg.name arg.kind h.0.new_name b)

-- an argument is in scope behind them all
still_there : (args : List Arg) (a : Around) (n : Name) (b : Binding) → ArgumentsHold args a → a.scope n ≡ Some b → (behind_arguments args a).scope n ≡ Some b
still_there [] a n b h k = k
still_there (arg ∷ args) a n b h k =
    still_there args (behind_argument arg.name arg.kind a) n b h.1 (put-other a.scope arg.name _ n (new_apart a arg.name n _ h.0.new_name k) ∙ k)

pub argument_there : (args : List Arg) (a : Around) (n : Name) (ty : MemrefType) → ArgumentsHold args a → HasArgument args n (kind.Memref ty) → (behind_arguments args a).scope n ≡ Some (MemrefArgument ty)
argument_there [] a n ty h k = absurd k
argument_there (arg ∷ args) a n ty h (inl k) =
    still_there args (behind_argument arg.name arg.kind a) n _ h.1 (put-same a.scope arg.name _ n (same_name-is arg.name n k.0) ∙ ap (λ x. Some (binding_of_kind x)) k.1)
argument_there (arg ∷ args) a n ty h (inr k) = argument_there args (behind_argument arg.name arg.kind a) n ty h.1 k

passes_apart : (args : List Arg) (body : Nest) → Passes args body → (symbols : List ℤ) (n : Name) (ty : MemrefType) (order first : ℕ) → HasArgument args n (kind.Memref ty) → (start_env args symbols).home n ≡ Some (SlowMemref order first)
    → Each (Apart n first ty.sizes) body (start_env args symbols)
unfolding start_env
passes_apart args body passes symbols n ty order first there home =
    let r = arguments_told args body body outside passes.totals passes.passed in
    let hold = arguments_hold args body outside passes.totals passes.passed in
    let a = behind_arguments args outside in
    let p0 : Placed = record { env = empty_env; memrefs = 0; elements = 0; symbols = symbols } in
    let p = fold place_arg p0 args in
    let begun : Begun a p = begun_all args outside p0 hold (record {
      laid = record { below = λ n ty h. absurd (let z : ⊥ = cc in z); apart = λ n n' ty ty' o f o' f' h h' k k' differ. absurd (let z : ⊥ = cc in z) };
      pure = λ n. tt;
    }) in
    text_apart a.scope p.env.home p.elements begun.laid n ty order first (argument_there args outside n ty hold there) home body a p.env passes.totals r.0 (λ n. pure_based (a.scope n) (p.env.home n) (begun.pure n))

pub valid_apart : ValidIsApart
unfolding first_broken told_module
valid_apart m valid symbols n ty order first there home =
    let passed = passed_of (told_arguments m.args (told (nest m.body)) outside) valid in
    passes_apart m.args (nest m.body) (record { totals = passed.0; passed = passed.1 }) symbols n ty order first there home

pub all_apart : PassingIsApart
all_apart made_by args symbols [] n h k = tt
all_apart made_by args symbols (s ∷ ss) n h k =
    (passes_apart args n k.0 symbols s.placement.memref (slow_type s.placement) s.order s.first h.0.0 h.0.1, all_apart made_by args symbols ss (stage_one s.placement s.spot n) h.1 k.1)
