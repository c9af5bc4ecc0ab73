-- Behind each start of a valid text stands a release of its tag.
use Rattle.std.proofs.Common.{◌≡◌, ◌⊎◌, inl, inr, ⊎_elim, ℕ, ◌+◌, ◌<◌, ◌≤◌, ℤ, ◌≤ℤ◌, ◌<ℤ◌, Bool, true, false, List, [], ◌∷◌, ◌++◌, refl, sym, ap, ◌∙◌, subst, arith, append_assoc}
use Rattle.std.specs.Prelude.{◌&&◌, ◌||◌, flat_map, Option, Some, None, is_some, if◌then◌else◌}
use Rattle.std.specs.List.{list_any}
use Rattle.std.proofs.lemmas.Bool.{le-leb, lt-ltb}
use Rattle.std.proofs.lemmas.List.Folds.{list_any-append}
use Rattle.affine_ast.specs.declared.name.Name.{Name}
use Rattle.affine_ast.specs.declared.types.MemrefType.{MemrefType}
use Rattle.affine_ast.specs.declared.types.Scalar.TheVariants as scalar
use Rattle.affine_ast.specs.Names.{same_name, put}
use Rattle.affine_ast.proofs.Names.{put-same, put-other, same_name-refl}
use Rattle.affine_ast.specs.Nest.{Plain, Nest, Nothing, Loop, Branch, Does, Value, Load, Store, RawLoad, RawStore, Constant, Binary, Cast, Alloc, Dealloc, Start, Wait, Return}
use Rattle.affine_ast.specs.Rules.{is_in, is_memref_of, binding_is_memref_of, is_dealloc_of, own_deallocs}
use Rattle.affine_ast.specs.Scope.{Binding, Variable, Symbol, IndexConstant, Data, MemrefArgument, Allocation, Scope, Totals, Around, counted, in_loop, in_condition, with_totals, behind_plain}
use Rattle.affine_ast.specs.Sizes.{product}
use Rattle.affine_ast.specs.Validity.{Passed, then_told, told, rule_of_plain, rule_of_loop, rule_of_condition}
use Rattle.direct_meaning.specs.Turns.{turns}
use Rattle.direct_meaning.specs.Action.{Home, SlowMemref, FastMemref, TagMemref, Action, Allocates, AllocatesTags, ReleasesTags, Starts}
use Rattle.direct_meaning.specs.Actions.{is_fast, dealloc_of, wait_of, action_of, after_plain, behind, actions}
use Rattle.direct_meaning.specs.Static.{Env, knows, lower_of, upper_of, holds_at, tag_of}
use Rattle.direct_meaning.proofs.WorkLaws.{Every, Between, all_between}
use Rattle.valid_laws.specs.Safe.{SafePlain, SafeNest}
use Rattle.valid_laws.proofs.Passing.{Holds, judged_passed, then_passed, plain_holds, loop_holds}
use Rattle.valid_laws.proofs.SafeHolds.{plain_stands, turn_stands}
use Rattle.valid_laws.proofs.Scoped.{ScopeStands, type_same}
use Rattle.valid_laws.proofs.Small.{small_between}
use Rattle.order_meaning.specs.Orderly.{Rooms, releases_tag, rooms_after}
use Rattle.order_meaning.proofs.Flights.{none_some, both_ways}
use Rattle.order_laws.proofs.Memrefs.{After, as_before, no_memref, allocated, behind_name, kept_name, HomeOk, Homes, homes_behind, homes_turn}
use Rattle.order_laws.proofs.Starts.{IsTag}
use Rattle.order_laws.proofs.Deallocs.{which_dealloc, own_of_alloc}
use Rattle.order_laws.proofs.Rooms.{or_true, start_action, stepped_by}

-- ---- lists of actions

abbrev pub IsReleasedLater : Action → List Action → Type 0
IsReleasedLater (Starts t) more = list_any (releases_tag t.tag) more ≡ true
IsReleasedLater a more = Unit {0}

-- each start of a list has its tag released later in it, or behind it
abbrev pub AllReleased : List Action → List Action → Type 0
AllReleased [] behind = Unit {0}
AllReleased (a ∷ more) behind = IsReleasedLater a (more ++ behind) × AllReleased more behind

released_append : (xs ys zs : List Action) → AllReleased xs (ys ++ zs) → AllReleased ys zs → AllReleased (xs ++ ys) zs
released_append [] ys zs h k = k
released_append (a ∷ xs) ys zs h k = (subst (IsReleasedLater a) (sym (append_assoc xs ys zs)) h.0, released_append xs ys zs h.1 k)

-- all of so many tags from the first on are released in a list
abbrev pub Frees : ℕ → ℕ → List Action → Type 0
Frees first size xs = (tag : ℕ) → first ≤ tag → tag < first + size → list_any (releases_tag tag) xs ≡ true

frees_left : (first size : ℕ) (xs ys : List Action) → Frees first size xs → Frees first size (xs ++ ys)
frees_left first size xs ys h tag l u = list_any-append (releases_tag tag) xs ys ∙ ap (λ b. b || list_any (releases_tag tag) ys) (h tag l u)

frees_right : (first size : ℕ) (xs ys : List Action) → Frees first size ys → Frees first size (xs ++ ys)
frees_right first size xs ys h tag l u = list_any-append (releases_tag tag) xs ys ∙ ap (λ b. list_any (releases_tag tag) xs || b) (h tag l u) ∙ or_true (list_any (releases_tag tag) xs)

frees_tail : (first size : ℕ) (a : Action) (xs : List Action) → Frees first size xs → Frees first size (a ∷ xs)
frees_tail first size a xs h tag l u = ap (λ b. releases_tag tag a || b) (h tag l u) ∙ or_true (releases_tag tag a)

-- ---- the dealloc of an allocation of tags

in_of : (s : Scope) (m : Name) (ty : MemrefType) → s m ≡ Some (Allocation ty) → is_in s m ≡ true
unfolding is_in
in_of s m ty q = ap is_some q

freed_by_dealloc : (n : Nest) (a : Around) (t : Totals) (e : Env) (m : Name) (ty : MemrefType) (first : ℕ) → ScopeStands a.scope e → SafeNest n e → told n a ≡ Passed t → a.scope m ≡ Some (Allocation ty) → e.home m ≡ Some (TagMemref first) → 1 ≤ own_deallocs m n
    → Frees first (product ty.sizes) (actions n e)
unfolding told own_deallocs actions action_of is_memref_of
freed_by_dealloc Nothing a t e m ty first h safe q bound home own = absurd (omega (arith, own))
freed_by_dealloc (Loop line x l u s body rest) a t e m ty first h safe q bound home own =
    let j = judged_passed line (rule_of_loop (counted a) x l u s) _ t q in
    let p = then_passed (told body (in_loop x l u (counted a))) (λ t. told rest (with_totals t a)) t j.1 in
    frees_right first (product ty.sizes) (flat_map (λ t. actions body (knows e x t)) (turns (lower_of e l) (upper_of e u) s)) (actions rest (behind body e))
    (freed_by_dealloc rest (with_totals p.0 a) t (behind body e) m ty first h safe.3 p.2 bound home own)
freed_by_dealloc (Branch line set names one has other rest) a t e m ty first h safe q bound home own =
    let j = judged_passed line (rule_of_condition (counted a) set names) _ t q in
    let p = then_passed (told one (in_condition (counted a))) (λ t. then_told (told other (in_condition (with_totals t a))) (λ u. told rest (with_totals u a))) t j.1 in
    let w = then_passed (told other (in_condition (with_totals p.0 a))) (λ u. told rest (with_totals u a)) t p.2 in
    frees_right first (product ty.sizes) (if holds_at e set names then actions one e else actions other (behind one e)) (actions rest (behind other (behind one e)))
    (freed_by_dealloc rest (with_totals w.0 a) t (behind other (behind one e)) m ty first h safe.4 w.2 bound home own)
freed_by_dealloc (Does line p rest) a t e m ty first h safe q bound home own =
    let j = judged_passed line (rule_of_plain (counted a) p rest) _ t q in
    let holds = plain_holds (counted a) p rest j.0 in
    let kept = kept_name a e p m (behind_name a e h m p rest holds) (in_of a.scope m ty bound) in
    ⊎_elim
    (λ (z : is_dealloc_of m p ≡ 0). frees_tail first (product ty.sizes) (action_of p e) (actions rest (after_plain p e))
    (freed_by_dealloc rest (behind_plain p (counted a)) t (after_plain p e) m ty first (plain_stands a p rest e h holds safe.1) safe.2 j.1 (kept.0 ∙ bound) (kept.1 ∙ home) (omega (arith, own, z))))
    (λ (z : (ty' : MemrefType) × (p ≡ Dealloc m ty')). here z.0 z.1 (subst (λ p. Holds (counted a) p rest) z.1 holds))
    (which_dealloc m p)
  where
    here : (ty' : MemrefType) → p ≡ Dealloc m ty' → Holds (counted a) (Dealloc m ty') rest → Frees first (product ty.sizes) (action_of p e ∷ actions rest (after_plain p e))
    here ty' r k tag low high =
        let sizes = (type_same ty ty' (ap (λ b. binding_is_memref_of b ty') (sym bound) ∙ k.types)).sizes in
        let act : action_of p e ≡ ReleasesTags first (product ty'.sizes) = ap (λ p. action_of p e) r ∙ ap (λ o. dealloc_of o ty') home in
        let same : product ty.sizes ≡ product ty'.sizes = ap product sizes in
        ap (λ x. releases_tag tag x || list_any (releases_tag tag) (actions rest (after_plain p e))) act
        ∙ (λ i. ((le-leb first tag low) i && (lt-ltb tag (first + product ty'.sizes) (omega (arith, high, same))) i) || list_any (releases_tag tag) (actions rest (after_plain p e)))

-- ---- the whole text

-- each allocation of tags in scope is released by the rest of its region, or behind it
abbrev pub Tagged : Around → Env → Nest → List Action → Type 0
Tagged a e n behind = (m : Name) (ty : MemrefType) (first : ℕ) → a.scope m ≡ Some (Allocation ty) → e.home m ≡ Some (TagMemref first) → a.released m ≡ false → (1 ≤ own_deallocs m n) ⊎ Frees first (product ty.sizes) behind

-- they are freed by the actions of the rest and those behind
tagged_frees : (n : Nest) (a : Around) (t : Totals) (e : Env) (behind : List Action) → ScopeStands a.scope e → SafeNest n e → told n a ≡ Passed t → Tagged a e n behind
    → (m : Name) (ty : MemrefType) (first : ℕ) → a.scope m ≡ Some (Allocation ty) → e.home m ≡ Some (TagMemref first) → a.released m ≡ false → Frees first (product ty.sizes) (actions n e ++ behind)
tagged_frees n a t e behind st safe q tagged m ty first bound home live = ⊎_elim
    (λ (own : 1 ≤ own_deallocs m n). frees_left first (product ty.sizes) (actions n e) behind (freed_by_dealloc n a t e m ty first st safe q bound home own))
    (λ (later : Frees first (product ty.sizes) behind). frees_right first (product ty.sizes) (actions n e) behind later)
    (tagged m ty first bound home live)

released_back : (a : Around) (p : Plain) (m : Name) → (behind_plain p (counted a)).released m ≡ false → a.released m ≡ false
released_back a (Dealloc x ty) m h = by (same_name x m) refl
  where
    by : (t : Bool) → same_name x m ≡ t → a.released m ≡ false
    by true t = absurd (both_ways (put a.released x true m) (put-same a.released x true m t) h)
    by false t = sym (put-other a.released x true m t) ∙ h
released_back a (Value r pick at) m h = h
released_back a (Load r x at ty) m h = h
released_back a (Store x y at ty) m h = h
released_back a (RawLoad r x at ty) m h = h
released_back a (RawStore x y at ty) m h = h
released_back a (Constant r z ty) m h = h
released_back a (Binary r op x y ty) m h = h
released_back a (Cast r kind x from to) m h = h
released_back a (Alloc r ty) m h = h
released_back a (Start x xa y ya t ta n stride types) m h = h
released_back a (Wait t at n ty) m h = h
released_back a Return m h = h

allocation_same : (a b : MemrefType) → Some (Allocation a) ≡ Some (Allocation b) → a ≡ b
allocation_same a b e = cc

tagged_plain : (a : Around) (e : Env) → ScopeStands a.scope e → (line : ℕ) (p : Plain) (rest : Nest) (behind : List Action) → Holds (counted a) p rest → Tagged a e (Does line p rest) behind → Tagged (behind_plain p (counted a)) (after_plain p e) rest behind
unfolding own_deallocs
tagged_plain a e st line p rest behind k h m ty first bound home live = by (behind_name a e st m p rest k)
  where
    Goal : Type 0
    Goal = (1 ≤ own_deallocs m rest) ⊎ Frees first (product ty.sizes) behind

    still : is_dealloc_of m p ≡ 0 → Goal → Goal
    still z g = g

    by : After a e p m → Goal
    by (as_before q r) = ⊎_elim
        (λ (own : 1 ≤ is_dealloc_of m p + own_deallocs m rest). ⊎_elim
        (λ (z : is_dealloc_of m p ≡ 0). let g : Goal = inl (omega (arith, own, z)) in g)
        (λ (z : (ty' : MemrefType) × (p ≡ Dealloc m ty')). absurd (both_ways (put a.released m true m) (put-same a.released m true m (same_name-refl m)) (subst (λ p. (behind_plain p (counted a)).released m ≡ false) z.1 live)))
        (which_dealloc m p))
        (λ (later : Frees first (product ty.sizes) behind). let g : Goal = inr later in g)
        (h m ty first (sym q ∙ bound) (sym r ∙ home) (released_back a p m live))
    by (no_memref q r) = absurd (none_some ((after_plain p e).home m) (TagMemref first) r home)
    by (allocated q ty' r) = let o = own_of_alloc a m ty' rest (subst (λ p. Holds (counted a) p rest) r k) in inl (omega (arith, o))

-- what a name for tags is
tag_home : (slow : ℕ) (rooms : Rooms) (fasts first : ℕ) (b : Option Binding) (released : Bool) → HomeOk slow rooms fasts b released (Some (TagMemref first)) → (ty : MemrefType) × (b ≡ Some (Allocation ty))
tag_home slow rooms fasts first None released h = absurd h
tag_home slow rooms fasts first (Some (Variable r)) released h = absurd h
tag_home slow rooms fasts first (Some (Symbol r)) released h = absurd h
tag_home slow rooms fasts first (Some (IndexConstant z)) released h = absurd h
tag_home slow rooms fasts first (Some (Data ty)) released h = absurd h
tag_home slow rooms fasts first (Some (MemrefArgument ty)) released h = absurd h
tag_home slow rooms fasts first (Some (Allocation ty)) released h = (ty, refl)

module _ (slow : ℕ) where
  -- the action of a plain statement, before those that free what is in scope
  released_action : (rooms : Rooms) (a : Around) (e : Env) → ScopeStands a.scope e → Homes slow rooms a.scope a.released e → (p : Plain) (rest : Nest) (more : List Action) → Holds (counted a) p rest → SafePlain e p
      → ((m : Name) (ty : MemrefType) (first : ℕ) → (after_plain p e).home m ≡ e.home m → (behind_plain p (counted a)).scope m ≡ a.scope m → (behind_plain p (counted a)).released m ≡ a.released m → a.scope m ≡ Some (Allocation ty) → e.home m ≡ Some (TagMemref first) → a.released m ≡ false → Frees first (product ty.sizes) more)
      → IsReleasedLater (action_of p e) more
  unfolding action_of after_plain is_memref_of
  released_action rooms a e st h (Start x xa y ya t ta n stride types) rest more k safe frees =
      start_action slow rooms a e st h rest (λ x. IsReleasedLater x more) (λ k. tt) x xa y ya t ta n stride types k safe (λ u f ty is live g. at ty is live u.tag g)
    where
      at : (ty : MemrefType) → is_memref_of a.scope t ty ≡ true → a.released t ≡ false → (tag : ℕ) → IsTag (e.home t) (product ty.sizes) tag → list_any (releases_tag tag) more ≡ true
      at ty is live tag g =
          let b = tag_home slow rooms e.fasts g.first (a.scope t) (a.released t) (subst (HomeOk slow rooms e.fasts (a.scope t) (a.released t)) g.is (h.each t)) in
          let same : product b.0.sizes ≡ product ty.sizes = ap product (type_same b.0 ty (ap (λ b. binding_is_memref_of b ty) (sym b.1) ∙ is)).sizes in
          frees t b.0 g.first refl refl refl b.1 g.is live tag g.low (let u = g.high in omega (arith, u, same))
  released_action rooms a e st h (Value r pick at) rest more k safe frees = tt
  released_action rooms a e st h (Load r x at ty) rest more k safe frees = tt
  released_action rooms a e st h (Store x y at ty) rest more k safe frees = tt
  released_action rooms a e st h (RawLoad r x at ty) rest more k safe frees = tt
  released_action rooms a e st h (RawStore x y at ty) rest more k safe frees = tt
  released_action rooms a e st h (Constant r z (scalar.Int element)) rest more k safe frees = tt
  released_action rooms a e st h (Constant r z scalar.Index) rest more k safe frees = tt
  released_action rooms a e st h (Binary r op x y ty) rest more k safe frees = tt
  released_action rooms a e st h (Cast r kind x from to) rest more k safe frees = tt
  released_action rooms a e st h (Alloc r ty) rest more k safe frees = by (is_fast ty)
    where
      by : (t : Bool) → IsReleasedLater (if t then Allocates e.fasts ty.element ty.sizes else AllocatesTags e.tags (product ty.sizes)) more
      by true = tt
      by false = tt
  released_action rooms a e st h (Dealloc m ty) rest more k safe frees = by (e.home m)
    where
      by : (o : Option Home) → IsReleasedLater (dealloc_of o ty) more
      by None = tt
      by (Some (SlowMemref number first)) = tt
      by (Some (FastMemref k)) = tt
      by (Some (TagMemref first)) = tt
  released_action rooms a e st h (Wait t at n ty) rest more k safe frees = by (tag_of e t at ty) _
    where
      by : (o : Option ℕ) (count : ℕ) → IsReleasedLater (wait_of o count) more
      by None count = tt
      by (Some tag) count = tt
  released_action rooms a e st h Return rest more k safe frees = tt

  released_turns : (f : ℤ → List Action) (low high : ℤ) (behind : List Action) → ((z : ℤ) → low ≤ℤ z → z <ℤ high → (ws : List Action) → AllReleased (f z) (ws ++ behind)) → (ts : List ℤ) → Every (Between low high) ts → AllReleased (flat_map f ts) behind
  released_turns f low high behind each [] h = tt
  released_turns f low high behind each (t ∷ ts) h = released_append (f t) (flat_map f ts) behind (each t h.0.0 h.0.1 (flat_map f ts)) (released_turns f low high behind each ts h.1)

  pub released : (n : Nest) (a : Around) (t : Totals) (e : Env) (rooms : Rooms) (behind_it : List Action) → ScopeStands a.scope e → SafeNest n e → Homes slow rooms a.scope a.released e → told n a ≡ Passed t → Tagged a e n behind_it → AllReleased (actions n e) behind_it
  unfolding told actions own_deallocs
  released Nothing a t e rooms bh st safe h q tagged = tt
  released (Loop line x l u s body rest) a t e rooms bh st safe h q tagged =
      let j = judged_passed line (rule_of_loop (counted a) x l u s) _ t q in
      let p = then_passed (told body (in_loop x l u (counted a))) (λ t. told rest (with_totals t a)) t j.1 in
      let new = (loop_holds (counted a) x l u s j.0).new_name in
      let later = tagged_frees rest (with_totals p.0 a) t (behind body e) bh st safe.3 p.2 tagged in
      let tail = actions rest (behind body e) ++ bh in
      let turn = λ (z : ℤ) (from : lower_of e l ≤ℤ z) (to : z <ℤ upper_of e u) (ws : List Action).
      released body (in_loop x l u (counted a)) p.0 (knows e x z) rooms (ws ++ tail) (turn_stands a.scope e x _ z st new (small_between _ _ z safe.1.lower_small safe.1.upper_small from to)) (safe.2 z from to)
      (homes_turn slow rooms a.scope a.released e x _ z st new h) p.1
      (λ m ty first bound home live. inr (frees_right first (product ty.sizes) ws tail (later m ty first (outer a.scope x _ m ty bound) home live))) in
      released_append (flat_map (λ t. actions body (knows e x t)) (turns (lower_of e l) (upper_of e u) s)) (actions rest (behind body e)) bh
      (released_turns (λ t. actions body (knows e x t)) (lower_of e l) (upper_of e u) tail turn (turns (lower_of e l) (upper_of e u) s) (all_between (lower_of e l) (upper_of e u) s))
      (released rest (with_totals p.0 a) t (behind body e) rooms bh st safe.3 (homes_behind slow rooms a.scope a.released e (behind body e) refl (omega arith) h) p.2 tagged)
    where
      outer : (s : Scope) (v : Name) (r : _) (m : Name) (ty : MemrefType) → put s v (Some (Variable r)) m ≡ Some (Allocation ty) → s m ≡ Some (Allocation ty)
      outer s v r m ty q = by (same_name v m) refl
        where
          by : (t : Bool) → same_name v m ≡ t → s m ≡ Some (Allocation ty)
          by true t = let z : Some (Variable r) ≡ Some (Allocation ty) = sym (put-same s v (Some (Variable r)) m t) ∙ q in absurd (let y : ⊥ = cc in y)
          by false t = sym (put-other s v (Some (Variable r)) m t) ∙ q
  released (Branch line set names one has other rest) a t e rooms bh st safe h q tagged =
      let j = judged_passed line (rule_of_condition (counted a) set names) _ t q in
      let p = then_passed (told one (in_condition (counted a))) (λ t. then_told (told other (in_condition (with_totals t a))) (λ u. told rest (with_totals u a))) t j.1 in
      let w = then_passed (told other (in_condition (with_totals p.0 a))) (λ u. told rest (with_totals u a)) t p.2 in
      let e1 : Env = behind one e in
      let later = tagged_frees rest (with_totals w.0 a) t (behind other e1) bh st safe.4 w.2 tagged in
      let tail = actions rest (behind other e1) ++ bh in
      released_append (if holds_at e set names then actions one e else actions other e1) (actions rest (behind other e1)) bh
      (chosen tail (holds_at e set names) (actions one e) (actions other e1)
      (released one (in_condition (counted a)) p.0 e rooms tail st safe.2 h p.1 (λ m ty first bound home live. inr (later m ty first bound home live)))
      (released other (in_condition (with_totals p.0 a)) w.0 e1 rooms tail st safe.3 (homes_behind slow rooms a.scope a.released e e1 refl (omega arith) h) w.1 (λ m ty first bound home live. inr (later m ty first bound home live))))
      (released rest (with_totals w.0 a) t (behind other e1) rooms bh st safe.4 (homes_behind slow rooms a.scope a.released e (behind other e1) refl (omega arith) h) w.2 tagged)
    where
      chosen : (tail : List Action) (b : Bool) (xs ys : List Action) → AllReleased xs tail → AllReleased ys tail → AllReleased (if b then xs else ys) tail
      chosen tail true xs ys c d = c
      chosen tail false xs ys c d = d
  released (Does line p rest) a t e rooms bh st safe h q tagged =
      let j = judged_passed line (rule_of_plain (counted a) p rest) _ t q in
      let holds = plain_holds (counted a) p rest j.0 in
      let st' = plain_stands a p rest e st holds safe.1 in
      let step = stepped_by slow rooms a e st h rest p t holds safe.1 safe.2 j.1 st' in
      let tagged' = tagged_plain a e st line p rest bh holds tagged in
      let later = tagged_frees rest (behind_plain p (counted a)) t (after_plain p e) bh st' safe.2 j.1 tagged' in (
        released_action rooms a e st h p rest (actions rest (after_plain p e) ++ bh) holds safe.1 (λ m ty first hm sm rm bound home live. later m ty first (sm ∙ bound) (hm ∙ home) (rm ∙ live)),
        released rest (behind_plain p (counted a)) t (after_plain p e) (rooms_after rooms (action_of p e)) bh st' safe.2 step.homes j.1 tagged',
      )
