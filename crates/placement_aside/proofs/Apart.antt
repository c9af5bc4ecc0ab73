-- Raw accesses and transfers of other memrefs have no place of an argument, in a text that passes; and what is released.
use Rattle.std.proofs.Common.{◌≡◌, ℕ, zero, suc, ◌+◌, ◌<◌, ℤ, List, [], ◌∷◌, Bool, true, false, Option, Some, None, refl, sym, ap, ◌∙◌, subst, arith}
use Rattle.std.specs.Prelude.{◌&&◌, not, is_some, nat_eq, fold, if◌then◌else◌}
use Rattle.std.proofs.lemmas.Bool.{and_parts}
use Rattle.affine_ast.specs.declared.module.Arg.{Arg}
use Rattle.affine_ast.specs.declared.module.ArgKind.{ArgKind}
use Rattle.affine_ast.specs.declared.module.ArgKind.TheVariants as kind
use Rattle.affine_ast.specs.declared.name.Name.{Name}
use Rattle.affine_ast.specs.declared.types.MemrefType.{MemrefType}
use Rattle.affine_ast.specs.declared.types.Scalar.TheVariants as scalar
use Rattle.affine_ast.specs.Names.{same_name, put}
use Rattle.affine_ast.proofs.Names.{put-same, put-other, same_name-eq, same_name-sym}
use Rattle.affine_ast.specs.Nest.{Plain, Nest, Nothing, Loop, Branch, Does, Value, Load, Store, RawLoad, RawStore, Constant, Binary, Cast, Alloc, Dealloc, Start, Wait, Return}
use Rattle.affine_ast.specs.Rules.{is_in, is_new, is_of, are_indexes, same_element, binding_is_memref_of, is_memref_of, ends_typed}
use Rattle.affine_ast.specs.Scope.{Binding, Variable, Symbol, IndexConstant, Data, MemrefArgument, Allocation, Scope, Totals, Around, with_totals, counted, in_loop, in_condition, behind_plain}
use Rattle.affine_ast.specs.Sizes.{product}
use Rattle.affine_ast.specs.Validity.{Passed, then_told, rule_of_plain, rule_of_loop, rule_of_condition, told, outside}
use Rattle.direct_meaning.specs.Action.{Home, SlowMemref, FastMemref, TagMemref}
use Rattle.direct_meaning.specs.Actions.{is_fast, layout_of, action_of, after_plain, behind}
use Rattle.direct_meaning.specs.Memory.{Placed, place_kind, place_arg, empty_env, start_env}
use Rattle.direct_meaning.specs.Static.{Env, knows, lower_of, upper_of}
use Rattle.direct_meaning.specs.Turns.{turns}
use Rattle.valid_laws.proofs.Passing.{judged_passed, then_passed, Holds, plain_holds, loop_holds}
use Rattle.valid_laws.proofs.SafeStart.{behind_arguments, arguments_hold}
use Rattle.valid_laws.proofs.Scoped.{type_same}
use Rattle.boxes.specs.Every.{Every}
use Rattle.placement_texts.specs.Each.{Each}
use Rattle.placement_texts.specs.Fold.{Step, IsSlow, numbers_at}
use Rattle.placement_texts.specs.Labels.{Numbers, tag_up}
use Rattle.placement_texts.specs.OneTag.{InText}
use Rattle.placement_texts.specs.Spots.{stage_one, found}
use Rattle.placement_texts.specs.Template.{slow_type, dim_sizes}
use Rattle.placement_texts.specs.Valid.{Passes, StagesArgument}
use Rattle.placement_texts.proofs.ApartValid.{Beside, Laid, NoSlow, IsBased, Based, based_name, based_behind, Begun, begun_all, pure_based, argument_there}
use Rattle.placement_texts.proofs.StagedValid.{arguments_told}
use Rattle.staging_laws.specs.Spared.{HomeAside, Aside, ReleasedTogether}
use Rattle.placement_aside.specs.Law.{ReleaseIsOne, PassingIsAside}
use Rattle.placement_aside.proofs.Starts.{misses, EndsBeside, start_misses}
use Rattle.placement_aside.proofs.Released.{release_staged}

every_one : {A : Type 0} (P : A → Type 0) → ((x : A) → P x) → (xs : List A) → Every P xs
every_one P h [] = tt
every_one P h (x ∷ xs) = (h x, every_one P h xs)

first_in : Option Home → ℕ
first_in (Some (SlowMemref o f)) = f
first_in h = 0

-- ---- apart
module _ (s0 : Scope) (home0 : Name → Option Home) (elements : ℕ) (laid : Laid s0 home0 elements) (m : Name) (of : MemrefType) (order first : ℕ) (m_is : s0 m ≡ Some (MemrefArgument of)) (m_home : home0 m ≡ Some (SlowMemref order first)) where
  -- a memref of another name lies beside it, where it lies in slow memory
  beside : (s : Scope) (e : Env) (n : Name) (ty : MemrefType) → Based s0 home0 s e.home → is_memref_of s n ty ≡ true → same_name m n ≡ false → (k f : ℕ) → e.home n ≡ Some (SlowMemref k f) → Beside f ty.sizes first of.sizes
  unfolding is_memref_of first_in
  beside s e n ty b typed differ k f home = by (s n) (b n) typed
    where
      by : (x : Option Binding) → IsBased x (e.home n) (s0 n) (home0 n) → binding_is_memref_of x ty ≡ true → Beside f ty.sizes first of.sizes
      by (Some (MemrefArgument ty')) i t =
          let old = laid.below n ty' i.1 in
          let same = type_same ty' ty t in
          let at : old.1 ≡ f = ap first_in (sym (i.0 ∙ old.2) ∙ home) in
          subst (λ x. Beside x ty.sizes first of.sizes) at (subst (λ xs. Beside old.1 xs first of.sizes) same.sizes (laid.apart n m ty' of old.0 old.1 order first i.1 m_is old.2 m_home (same_name-sym n m ∙ differ)))
      by (Some (Allocation ty')) i t = absurd (subst NoSlow home i)
      by (Some (Variable r)) i t = absurd (let z : ⊥ = cc in z)
      by (Some (Symbol r)) i t = absurd (let z : ⊥ = cc in z)
      by (Some (IndexConstant y)) i t = absurd (let z : ⊥ = cc in z)
      by (Some (Data d)) i t = absurd (let z : ⊥ = cc in z)
      by None i t = absurd (let z : ⊥ = cc in z)

  home_aside : (h : Option Home) (others : List ℕ) → ((k f : ℕ) → h ≡ Some (SlowMemref k f) → Beside f others first of.sizes) → HomeAside first of.sizes h others
  home_aside (Some (SlowMemref k f)) others b = λ j less. misses first of.sizes f (f + j) others (b k f refl) (omega arith) (omega (arith, less))
  home_aside (Some (FastMemref n)) others b = tt
  home_aside (Some (TagMemref f)) others b = tt
  home_aside None others b = tt

  ends_beside : (s : Scope) (e : Env) (a b t : Name) (types : List MemrefType) → Based s0 home0 s e.home → ends_typed s a b t types ≡ true → same_name m a ≡ false → same_name m b ≡ false → EndsBeside first of.sizes e a b types
  ends_beside s e a b t (a_ty ∷ b_ty ∷ t_ty ∷ []) based h da db =
      let one = and_parts (is_memref_of s a a_ty) (is_memref_of s b b_ty && (is_memref_of s t t_ty && same_element a_ty.element b_ty.element)) h in
      let two = and_parts (is_memref_of s b b_ty) (is_memref_of s t t_ty && same_element a_ty.element b_ty.element) one.1 in
      (beside s e a a_ty based one.0 da, beside s e b b_ty based two.0 db)
  ends_beside s e a b t [] based h da db = tt
  ends_beside s e a b t (a_ty ∷ []) based h da db = tt
  ends_beside s e a b t (a_ty ∷ b_ty ∷ []) based h da db = tt
  ends_beside s e a b t (a_ty ∷ b_ty ∷ t_ty ∷ u_ty ∷ types) based h da db = tt

  plain_aside : (q : Plain) (a : Around) (e : Env) (rest : Nest) → Holds (counted a) q rest → Based s0 home0 a.scope e.home → Aside m first of.sizes q e
  unfolding action_of
  plain_aside (RawLoad r n at ty) a e rest h b = λ differ. home_aside (e.home n) ty.sizes (beside a.scope e n ty b (and_parts (is_memref_of a.scope n ty) (are_indexes a.scope at) h.types).0 differ)
  plain_aside (RawStore x n at ty) a e rest h b =
      let one = and_parts (is_of a.scope x (scalar.Int ty.element)) (is_memref_of a.scope n ty && are_indexes a.scope at) h.types in
      λ differ. home_aside (e.home n) ty.sizes (beside a.scope e n ty b (and_parts (is_memref_of a.scope n ty) (are_indexes a.scope at) one.1).0 differ)
  plain_aside (Start x x_at y y_at t t_at n stride types) a e rest h b = λ dx dy w is. start_misses first of.sizes e x x_at y y_at t t_at (layout_of e n stride) types (ends_beside a.scope e x y t types b h.types dx dy) w is
  plain_aside (Value r pick at) a e rest h b = tt
  plain_aside (Load r n at ty) a e rest h b = tt
  plain_aside (Store x n at ty) a e rest h b = tt
  plain_aside (Constant r z ty) a e rest h b = tt
  plain_aside (Binary r op x y ty) a e rest h b = tt
  plain_aside (Cast r k x from to) a e rest h b = tt
  plain_aside (Alloc r ty) a e rest h b = tt
  plain_aside (Dealloc n ty) a e rest h b = tt
  plain_aside (Wait t at n ty) a e rest h b = tt
  plain_aside Return a e rest h b = tt

  text_aside : (n : Nest) (a : Around) (e : Env) (t : Totals) → told n a ≡ Passed t → Based s0 home0 a.scope e.home → Each (Aside m first of.sizes) n e
  unfolding told
  text_aside Nothing a e t h b = tt
  text_aside (Loop line v l u step body rest) a e t h b =
      let j = judged_passed line (rule_of_loop (counted a) v l u step) _ t h in
      let k = then_passed (told body (in_loop v l u (counted a))) (λ t. told rest (with_totals t a)) t j.1 in (
        every_one (λ z. Each (Aside m first of.sizes) body (knows e v z)) (λ z. text_aside body (in_loop v l u (counted a)) (knows e v z) k.0 k.1 (based_name s0 home0 a.scope e.home v _ tt (loop_holds (counted a) v l u step j.0).new_name b)) (turns (lower_of e l) (upper_of e u) step),
        text_aside rest (with_totals k.0 a) (behind body e) t k.2 b,
      )
  text_aside (Branch line set ns first_ has other rest) a e t h b =
      let j = judged_passed line (rule_of_condition (counted a) set ns) _ t h in
      let k = then_passed (told first_ (in_condition (counted a))) (λ t. then_told (told other (in_condition (with_totals t a))) (λ u. told rest (with_totals u a))) t j.1 in
      let o = then_passed (told other (in_condition (with_totals k.0 a))) (λ u. told rest (with_totals u a)) t k.2 in
      ((λ is. text_aside first_ (in_condition (counted a)) e k.0 k.1 b), (λ is. text_aside other (in_condition (with_totals k.0 a)) (behind first_ e) o.0 o.1 b), text_aside rest (with_totals o.0 a) (behind other (behind first_ e)) t o.2 b)
  text_aside (Does line q rest) a e t h b =
      let j = judged_passed line (rule_of_plain (counted a) q rest) _ t h in
      let holds = plain_holds (counted a) q rest j.0 in
      (plain_aside q a e rest holds b, text_aside rest (behind_plain q (counted a)) (after_plain q e) t j.1 (based_behind s0 home0 q a e rest holds b))

-- ---- tags
abbrev NoTag : Option Home → Type 0
NoTag (Some (TagMemref f)) = ⊥
NoTag h = Unit {0}

-- a name that stands for tags is an allocation that isn't in space 1
abbrev IsTagged : Option Binding → Option Home → Type 0
IsTagged (Some (Allocation ty)) (Some (TagMemref f)) = is_fast ty ≡ false
IsTagged (Some (Allocation ty)) (Some (SlowMemref k f)) = Unit {0}
IsTagged (Some (Allocation ty)) (Some (FastMemref k)) = Unit {0}
IsTagged (Some (Allocation ty)) None = Unit {0}
IsTagged (Some (MemrefArgument ty)) h = NoTag h
IsTagged (Some (Variable r)) h = NoTag h
IsTagged (Some (Symbol r)) h = NoTag h
IsTagged (Some (IndexConstant z)) h = NoTag h
IsTagged (Some (Data d)) h = NoTag h
IsTagged None h = NoTag h

abbrev Tagged : Scope → (Name → Option Home) → Type 0
Tagged s home = (n : Name) → IsTagged (s n) (home n)

abbrev IsValue : Binding → Type 0
IsValue (Allocation ty) = ⊥
IsValue (MemrefArgument ty) = ⊥
IsValue b = Unit {0}

value_tagged : (b : Binding) (h : Option Home) → IsValue b → NoTag h → IsTagged (Some b) h
value_tagged (Variable r) h p k = k
value_tagged (Symbol r) h p k = k
value_tagged (IndexConstant z) h p k = k
value_tagged (Data ty) h p k = k
value_tagged (MemrefArgument ty) h p k = absurd p
value_tagged (Allocation ty) h p k = absurd p

none_tagged : (s : Scope) (home : Name → Option Home) (r : Name) → is_new s r ≡ true → Tagged s home → NoTag (home r)
unfolding is_in
none_tagged s home r new b = by (s r) refl (b r)
  where
    by : (x : Option Binding) → s r ≡ x → IsTagged x (home r) → NoTag (home r)
    by None e k = k
    by (Some x) e k = let z : true ≡ false = sym new ∙ ap (λ y. not (is_some y)) e in absurd (cc)

tagged_name : (s : Scope) (home : Name → Option Home) (r : Name) (x : Binding) → IsValue x → is_new s r ≡ true → Tagged s home → Tagged (put s r (Some x)) home
tagged_name s home r x p new b n = by (same_name r n) refl
  where
    by : (t : Bool) → same_name r n ≡ t → IsTagged (put s r (Some x) n) (home n)
    by true e = subst (λ y. IsTagged y (home n)) (sym (put-same s r (Some x) n e)) (value_tagged x (home n) p (subst (λ m. NoTag (home m)) (same_name-eq r n e) (none_tagged s home r new b)))
    by false e = subst (λ y. IsTagged y (home n)) (sym (put-other s r (Some x) n e)) (b n)

tagged_both : (s : Scope) (home : Name → Option Home) (r : Name) (x : Binding) (h : Home) → IsTagged (Some x) (Some h) → Tagged s home → Tagged (put s r (Some x)) (put home r (Some h))
tagged_both s home r x h p b n = by (same_name r n) refl
  where
    by : (t : Bool) → same_name r n ≡ t → IsTagged (put s r (Some x) n) (put home r (Some h) n)
    by true e = subst (λ y. IsTagged y (put home r (Some h) n)) (sym (put-same s r (Some x) n e)) (subst (IsTagged (Some x)) (sym (put-same home r (Some h) n e)) p)
    by false e = subst (λ y. IsTagged y (put home r (Some h) n)) (sym (put-other s r (Some x) n e)) (subst (IsTagged (s n)) (sym (put-other home r (Some h) n e)) (b n))

alloc_tagged : (t : Bool) (s : Scope) (e : Env) (r : Name) (ty : MemrefType) → is_fast ty ≡ t → Tagged s e.home
    → Tagged (put s r (Some (Allocation ty))) (if t then record e { home = put e.home r (Some (FastMemref e.fasts)); fasts = suc e.fasts } else record e { home = put e.home r (Some (TagMemref e.tags)); tags = e.tags + product ty.sizes }).home
alloc_tagged true s e r ty is b = tagged_both s e.home r (Allocation ty) (FastMemref e.fasts) tt b
alloc_tagged false s e r ty is b = tagged_both s e.home r (Allocation ty) (TagMemref e.tags) is b

tagged_behind : (q : Plain) (a : Around) (e : Env) (rest : Nest) → Holds (counted a) q rest → Tagged a.scope e.home → Tagged (behind_plain q (counted a)).scope (after_plain q e).home
unfolding after_plain
tagged_behind (Value r pick at) a e rest h b = tagged_name a.scope e.home r _ tt h.new_name b
tagged_behind (Load r m at ty) a e rest h b = tagged_name a.scope e.home r _ tt h.new_name b
tagged_behind (Store x m at ty) a e rest h b = b
tagged_behind (RawLoad r m at ty) a e rest h b = tagged_name a.scope e.home r _ tt h.new_name b
tagged_behind (RawStore x m at ty) a e rest h b = b
tagged_behind (Constant r z (scalar.Int element)) a e rest h b = tagged_name a.scope e.home r _ tt h.new_name b
tagged_behind (Constant r z scalar.Index) a e rest h b = tagged_name a.scope e.home r _ tt h.new_name b
tagged_behind (Binary r op x y ty) a e rest h b = tagged_name a.scope e.home r _ tt h.new_name b
tagged_behind (Cast r k x from to) a e rest h b = tagged_name a.scope e.home r _ tt h.new_name b
tagged_behind (Alloc r ty) a e rest h b = alloc_tagged (is_fast ty) a.scope e r ty refl b
tagged_behind (Dealloc m ty) a e rest h b = b
tagged_behind (Start x x_at y y_at t t_at n stride types) a e rest h b = b
tagged_behind (Wait t at n ty) a e rest h b = b
tagged_behind Return a e rest h b = b

module _ (new : Numbers) where
  one_together : (first k n : ℕ) → n ≡ 1 → k < n → tag_up new (first + k) ≡ tag_up new first + k
  one_together first zero n e less = ap (tag_up new) (plus first) ∙ sym (plus (tag_up new first))
    where
      plus : (m : ℕ) → m + 0 ≡ m
      plus m = omega arith
  one_together first (suc k) n e less = absurd (omega (arith, e, less))

  released : (s : Scope) (e : Env) (m : Name) (ty : MemrefType) → Tagged s e.home → is_memref_of s m ty ≡ true → (is_fast ty ≡ false → product ty.sizes ≡ 1) → ReleasedTogether new (Dealloc m ty) e
  unfolding is_memref_of
  released s e m ty b typed one first home k less = one_together first k (product ty.sizes) (one (by (s m) (subst (IsTagged (s m)) home (b m)) typed)) less
    where
      by : (x : Option Binding) → IsTagged x (Some (TagMemref first)) → binding_is_memref_of x ty ≡ true → is_fast ty ≡ false
      by (Some (Allocation ty')) i t = ap (λ n. nat_eq n 1) (sym (type_same ty' ty t).space) ∙ i
      by (Some (MemrefArgument ty')) i t = absurd i
      by (Some (Variable r)) i t = absurd i
      by (Some (Symbol r)) i t = absurd i
      by (Some (IndexConstant y)) i t = absurd i
      by (Some (Data d)) i t = absurd i
      by None i t = absurd i

  plain_released : (q : Plain) (a : Around) (e : Env) (rest : Nest) → Holds (counted a) q rest → Tagged a.scope e.home → ReleaseIsOne q → ReleasedTogether new q e
  plain_released (Dealloc m ty) a e rest h b one = released a.scope e m ty b h.types one
  plain_released (Value r pick at) a e rest h b one = tt
  plain_released (Load r n at ty) a e rest h b one = tt
  plain_released (Store x n at ty) a e rest h b one = tt
  plain_released (RawLoad r n at ty) a e rest h b one = tt
  plain_released (RawStore x n at ty) a e rest h b one = tt
  plain_released (Constant r z ty) a e rest h b one = tt
  plain_released (Binary r op x y ty) a e rest h b one = tt
  plain_released (Cast r k x from to) a e rest h b one = tt
  plain_released (Alloc r ty) a e rest h b one = tt
  plain_released (Start x x_at y y_at t t_at n stride types) a e rest h b one = tt
  plain_released (Wait t at n ty) a e rest h b one = tt
  plain_released Return a e rest h b one = tt

  text_released : (n : Nest) (a : Around) (e : Env) (t : Totals) → told n a ≡ Passed t → Tagged a.scope e.home → InText ReleaseIsOne n → Each (ReleasedTogether new) n e
  unfolding told
  text_released Nothing a e t h b i = tt
  text_released (Loop line v l u step body rest) a e t h b i =
      let j = judged_passed line (rule_of_loop (counted a) v l u step) _ t h in
      let k = then_passed (told body (in_loop v l u (counted a))) (λ t. told rest (with_totals t a)) t j.1 in (
        every_one (λ z. Each (ReleasedTogether new) body (knows e v z)) (λ z. text_released body (in_loop v l u (counted a)) (knows e v z) k.0 k.1 (tagged_name a.scope e.home v _ tt (loop_holds (counted a) v l u step j.0).new_name b) i.0) (turns (lower_of e l) (upper_of e u) step),
        text_released rest (with_totals k.0 a) (behind body e) t k.2 b i.1,
      )
  text_released (Branch line set ns first_ has other rest) a e t h b i =
      let j = judged_passed line (rule_of_condition (counted a) set ns) _ t h in
      let k = then_passed (told first_ (in_condition (counted a))) (λ t. then_told (told other (in_condition (with_totals t a))) (λ u. told rest (with_totals u a))) t j.1 in
      let o = then_passed (told other (in_condition (with_totals k.0 a))) (λ u. told rest (with_totals u a)) t k.2 in
      ((λ is. text_released first_ (in_condition (counted a)) e k.0 k.1 b i.0), (λ is. text_released other (in_condition (with_totals k.0 a)) (behind first_ e) o.0 o.1 b i.1), text_released rest (with_totals o.0 a) (behind other (behind first_ e)) t o.2 b i.2)
  text_released (Does line q rest) a e t h b i =
      let j = judged_passed line (rule_of_plain (counted a) q rest) _ t h in
      let holds = plain_holds (counted a) q rest j.0 in
      (plain_released q a e rest holds b i.0, text_released rest (behind_plain q (counted a)) (after_plain q e) t j.1 (tagged_behind q a e rest holds b) i.1)

-- ---- the arguments
slow_tagged : (b : Option Binding) (h : Option Home) → IsSlow h → NoTag h
slow_tagged b None s = tt
slow_tagged b (Some (SlowMemref k f)) s = tt
slow_tagged b (Some (FastMemref k)) s = tt
slow_tagged b (Some (TagMemref f)) s = s

no_tagged : (b : Option Binding) (h : Option Home) → NoTag h → IsTagged b h
no_tagged None h s = s
no_tagged (Some (Variable r)) h s = s
no_tagged (Some (Symbol r)) h s = s
no_tagged (Some (IndexConstant z)) h s = s
no_tagged (Some (Data d)) h s = s
no_tagged (Some (MemrefArgument ty)) h s = s
no_tagged (Some (Allocation ty)) None s = tt
no_tagged (Some (Allocation ty)) (Some (SlowMemref k f)) s = tt
no_tagged (Some (Allocation ty)) (Some (FastMemref k)) s = tt
no_tagged (Some (Allocation ty)) (Some (TagMemref f)) s = absurd s

placed_slow : (k : ArgKind) (name : Name) (p : Placed) → ((n : Name) → IsSlow (p.env.home n)) → (n : Name) → IsSlow ((place_kind k name p).env.home n)
placed_slow (kind.Memref ty) name p h n = by (same_name name n) refl
  where
    by : (t : Bool) → same_name name n ≡ t → IsSlow (put p.env.home name (Some (SlowMemref p.memrefs p.elements)) n)
    by true e = subst IsSlow (sym (put-same p.env.home name (Some (SlowMemref p.memrefs p.elements)) n e)) tt
    by false e = subst IsSlow (sym (put-other p.env.home name (Some (SlowMemref p.memrefs p.elements)) n e)) (h n)
placed_slow (kind.Index range) name p h n = h n

all_placed : (args : List Arg) (p : Placed) → ((n : Name) → IsSlow (p.env.home n)) → (n : Name) → IsSlow ((fold place_arg p args).env.home n)
all_placed [] p h = h
all_placed (arg ∷ args) p h = all_placed args (place_kind arg.kind arg.name p) (placed_slow arg.kind arg.name p h)

record IsAsideAt (args : List Arg) (symbols : List ℤ) (s : Step) (n : Nest) (new : Numbers) : Type 0 where
  aside : Each (Aside s.placement.memref s.first (dim_sizes s.placement.dims)) n (start_env args symbols)
  released : Each (ReleasedTogether new) n (start_env args symbols)

passes_aside : (args : List Arg) (symbols : List ℤ) (s : Step) (n : Nest) (new : Numbers) → StagesArgument args symbols s → Passes args n → InText ReleaseIsOne n → IsAsideAt args symbols s n new
unfolding start_env
passes_aside args symbols s n new there passes one =
    let r = arguments_told args n n outside passes.totals passes.passed in
    let hold = arguments_hold args n outside passes.totals passes.passed in
    let a = behind_arguments args outside in
    let p0 : Placed = record { env = empty_env; memrefs = 0; elements = 0; symbols = symbols } in
    let p = fold place_arg p0 args in
    let begun : Begun a p = begun_all args outside p0 hold (record {
      laid = record { below = λ n ty h. absurd (let z : ⊥ = cc in z); apart = λ n n' ty ty' o f o' f' h h' k k' differ. absurd (let z : ⊥ = cc in z) };
      pure = λ n. tt;
    }) in
    record {
      aside = text_aside a.scope p.env.home p.elements begun.laid s.placement.memref (slow_type s.placement) s.order s.first (argument_there args outside s.placement.memref (slow_type s.placement) hold there.0) there.1 n a p.env passes.totals r.0 (λ n. pure_based (a.scope n) (p.env.home n) (begun.pure n));
      released = text_released new n a p.env passes.totals r.0 (λ n. no_tagged (a.scope n) (p.env.home n) (slow_tagged (a.scope n) (p.env.home n) (all_placed args p0 (λ n. tt) n))) one;
    }

pub passing_is_aside : PassingIsAside
passing_is_aside args symbols [] n h k i = tt
passing_is_aside args symbols (s ∷ ss) n h k i =
    let here = passes_aside args symbols s n (numbers_at s n (start_env args symbols)) h.0 k.0 i in
    (here.aside, here.released, passing_is_aside args symbols ss (stage_one s.placement s.spot n) h.1 k.1 (release_staged s.placement (found s.spot n) n i))
