-- The starts of a valid text: its names for tags stand for tags of the text.
use Rattle.std.proofs.Common.{◌≡◌, ℕ, suc, ◌+◌, ◌≤◌, ℤ, Bool, true, false, List, [], ◌∷◌, ◌++◌, refl, sym, ap, ◌∙◌, arith}
use Rattle.std.specs.Prelude.{◌&&◌, flat_map, Option, Some, None, if◌then◌else◌}
use Rattle.std.proofs.lemmas.Bool.{and_parts}
use Rattle.affine_ast.specs.declared.name.Name.{Name}
use Rattle.affine_ast.specs.declared.types.Access.{Access}
use Rattle.affine_ast.specs.declared.types.MemrefType.{MemrefType}
use Rattle.affine_ast.specs.declared.types.Scalar.{Scalar}
use Rattle.affine_ast.specs.declared.types.Scalar.TheVariants as scalar
use Rattle.affine_ast.specs.Names.{same_name, put}
use Rattle.affine_ast.proofs.Names.{put-same, put-other}
use Rattle.affine_ast.specs.Nest.{Plain, Nest, Nothing, Loop, Branch, Does, Value, Load, Store, RawLoad, RawStore, Constant, Binary, Cast, Alloc, Dealloc, Start, Wait, Return}
use Rattle.affine_ast.specs.Rules.{is_memref_of, binding_is_memref_of, ends_typed, same_element}
use Rattle.affine_ast.specs.Scope.{Binding, Allocation, Scope, Totals, Around, counted, in_loop, in_condition, with_totals, behind_plain, binding_of_constant}
use Rattle.affine_ast.specs.Sizes.{product}
use Rattle.affine_ast.specs.Validity.{Passed, then_told, told, rule_of_plain, rule_of_loop, rule_of_condition}
use Rattle.direct_meaning.specs.Turns.{turns}
use Rattle.direct_meaning.specs.Action.{Home, SlowMemref, FastMemref, TagMemref, Action, Allocates, AllocatesTags}
use Rattle.direct_meaning.specs.Actions.{is_fast, dealloc_of, wait_of, layout_of, action_of, after_plain, tags_of_plain, tags_in, behind, actions}
use Rattle.direct_meaning.specs.Static.{Env, knows, lower_of, upper_of, holds_at, tag_of}
use Rattle.valid_laws.proofs.Passing.{Holds, judged_passed, then_passed, plain_holds}
use Rattle.valid_laws.proofs.Scoped.{type_same}
use Rattle.transfer_laws.specs.Law.{StartsWithin, AllWithin}
use Rattle.transfer_laws.proofs.Starts.{start_is}

-- ---- lists

all_append : (tags : ℕ) (xs ys : List Action) → AllWithin tags xs → AllWithin tags ys → AllWithin tags (xs ++ ys)
all_append tags [] ys h k = k
all_append tags (a ∷ xs) ys h k = (h.0, all_append tags xs ys h.1 k)

all_turns : (tags : ℕ) (f : ℤ → List Action) → ((z : ℤ) → AllWithin tags (f z)) → (ts : List ℤ) → AllWithin tags (flat_map f ts)
all_turns tags f h [] = tt
all_turns tags f h (t ∷ ts) = all_append tags (f t) (flat_map f ts) (h t) (all_turns tags f h ts)

all_either : (tags : ℕ) (b : Bool) (xs ys : List Action) → AllWithin tags xs → AllWithin tags ys → AllWithin tags (if b then xs else ys)
all_either tags true xs ys h k = h
all_either tags false xs ys h k = k

-- ---- what names stand for

-- the tags that a name of this type stands for are below a number
abbrev pub TagsBelow : ℕ → Scope → (Name → Option Home) → Type 0
TagsBelow bound s home = (m : Name) (ty : MemrefType) (first : ℕ) → binding_is_memref_of (s m) ty ≡ true → home m ≡ Some (TagMemref first) → first + product ty.sizes ≤ bound

-- a binding that isn't a memref's
abbrev IsNoMemref : Binding → Type 0
IsNoMemref b = (ty : MemrefType) → binding_is_memref_of (Some b) ty ≡ false

never : (t : Bool) → t ≡ true → t ≡ false → ⊥
never true p q = let z : ⊥ = cc in z
never false p q = let z : ⊥ = cc in z

below_put : (bound : ℕ) (s : Scope) (home : Name → Option Home) (r : Name) (b : Binding) → IsNoMemref b → TagsBelow bound s home → TagsBelow bound (put s r (Some b)) home
below_put bound s home r b no_memref h m ty first is at = by (same_name r m) refl
  where
    by : (t : Bool) → same_name r m ≡ t → first + product ty.sizes ≤ bound
    by true t = absurd (never (binding_is_memref_of (put s r (Some b) m) ty) is (ap (λ o. binding_is_memref_of o ty) (put-same s r (Some b) m t) ∙ no_memref ty))
    by false t = h m ty first (ap (λ o. binding_is_memref_of o ty) (sym (put-other s r (Some b) m t)) ∙ is) at

constant_no_memref : (z : ℤ) (ty : Scalar) → IsNoMemref (binding_of_constant z ty)
constant_no_memref z (scalar.Int element) of = refl
constant_no_memref z scalar.Index of = refl

no_tags : (a b : ℕ) → Some (FastMemref a) ≡ Some (TagMemref b) → ⊥
no_tags a b e = cc

same_first : (a b : ℕ) → Some (TagMemref a) ≡ Some (TagMemref b) → a ≡ b
same_first a b e = cc

-- an allocation more: of tags, from the next one on
module _ (bound : ℕ) (s : Scope) (e : Env) (r : Name) (of : MemrefType) (h : TagsBelow bound s e.home) where
  below_fast : TagsBelow bound (put s r (Some (Allocation of))) (put e.home r (Some (FastMemref e.fasts)))
  below_fast m ty first is at = by (same_name r m) refl
    where
      by : (t : Bool) → same_name r m ≡ t → first + product ty.sizes ≤ bound
      by true t = absurd (no_tags e.fasts first (sym (put-same e.home r (Some (FastMemref e.fasts)) m t) ∙ at))
      by false t = h m ty first (ap (λ o. binding_is_memref_of o ty) (sym (put-other s r (Some (Allocation of)) m t)) ∙ is) (sym (put-other e.home r (Some (FastMemref e.fasts)) m t) ∙ at)

  below_tags : e.tags + product of.sizes ≤ bound → TagsBelow bound (put s r (Some (Allocation of))) (put e.home r (Some (TagMemref e.tags)))
  below_tags room m ty first is at = by (same_name r m) refl
    where
      by : (t : Bool) → same_name r m ≡ t → first + product ty.sizes ≤ bound
      by true t =
          let q = same_first e.tags first (sym (put-same e.home r (Some (TagMemref e.tags)) m t) ∙ at) in
          let same = ap product (type_same of ty (ap (λ o. binding_is_memref_of o ty) (sym (put-same s r (Some (Allocation of)) m t)) ∙ is)).sizes in
          omega (arith, room, q, same)
      by false t = h m ty first (ap (λ o. binding_is_memref_of o ty) (sym (put-other s r (Some (Allocation of)) m t)) ∙ is) (sym (put-other e.home r (Some (TagMemref e.tags)) m t) ∙ at)

  abbrev behind_it : Bool → Env
  behind_it t = if t then record e { home = put e.home r (Some (FastMemref e.fasts)); fasts = suc e.fasts } else record e { home = put e.home r (Some (TagMemref e.tags)); tags = e.tags + product of.sizes }

  below_alloc : (t : Bool) → e.tags + (if t then 0 else product of.sizes) ≤ bound → TagsBelow bound (put s r (Some (Allocation of))) (behind_it t).home
  below_alloc true room = below_fast
  below_alloc false room = below_tags room

-- behind a plain statement
below_behind : (bound : ℕ) (a : Around) (e : Env) (p : Plain) → TagsBelow bound a.scope e.home → e.tags + tags_of_plain p ≤ bound → TagsBelow bound (behind_plain p (counted a)).scope (after_plain p e).home
unfolding after_plain
below_behind bound a e (Value r pick at) h room = below_put bound a.scope e.home r _ (λ ty. refl) h
below_behind bound a e (Load r x at ty) h room = below_put bound a.scope e.home r _ (λ ty. refl) h
below_behind bound a e (Store x y at ty) h room = h
below_behind bound a e (RawLoad r x at ty) h room = below_put bound a.scope e.home r _ (λ ty. refl) h
below_behind bound a e (RawStore x y at ty) h room = h
below_behind bound a e (Constant r z (scalar.Int element)) h room = below_put bound a.scope e.home r _ (constant_no_memref z (scalar.Int element)) h
below_behind bound a e (Constant r z scalar.Index) h room = below_put bound a.scope e.home r _ (constant_no_memref z scalar.Index) h
below_behind bound a e (Binary r op x y ty) h room = below_put bound a.scope e.home r _ (λ ty. refl) h
below_behind bound a e (Cast r kind x from to) h room = below_put bound a.scope e.home r _ (λ ty. refl) h
below_behind bound a e (Alloc r ty) h room = below_alloc bound a.scope e r ty h (is_fast ty) room
below_behind bound a e (Dealloc x ty) h room = h
below_behind bound a e (Start x xa y ya t ta n stride types) h room = h
below_behind bound a e (Wait t at n ty) h room = h
below_behind bound a e Return h room = h

tags_behind : (p : Plain) (e : Env) → (after_plain p e).tags ≡ e.tags + tags_of_plain p
unfolding after_plain
tags_behind (Value r pick at) e = omega arith
tags_behind (Load r x at ty) e = omega arith
tags_behind (Store x y at ty) e = omega arith
tags_behind (RawLoad r x at ty) e = omega arith
tags_behind (RawStore x y at ty) e = omega arith
tags_behind (Constant r z (scalar.Int element)) e = omega arith
tags_behind (Constant r z scalar.Index) e = omega arith
tags_behind (Binary r op x y ty) e = omega arith
tags_behind (Cast r kind x from to) e = omega arith
tags_behind (Alloc r ty) e = by (is_fast ty)
  where
    by : (t : Bool) → (if t then record e { home = put e.home r (Some (FastMemref e.fasts)); fasts = suc e.fasts } else record e { home = put e.home r (Some (TagMemref e.tags)); tags = e.tags + product ty.sizes }).tags ≡ e.tags + (if t then 0 else product ty.sizes)
    by true = omega arith
    by false = refl
tags_behind (Dealloc x ty) e = omega arith
tags_behind (Start x xa y ya t ta n stride types) e = omega arith
tags_behind (Wait t at n ty) e = omega arith
tags_behind Return e = omega arith

-- ---- one statement

start_within : (bound : ℕ) (a : Around) (e : Env) (x : Name) (xa : Access) (y : Name) (ya : Access) (t : Name) (ta : Access) (n : Name) (stride : Option (Name × Name)) (types : List MemrefType) → TagsBelow bound a.scope e.home → ends_typed a.scope x y t types ≡ true
    → StartsWithin bound (action_of (Start x xa y ya t ta n stride types) e)
unfolding action_of is_memref_of
start_within bound a e x xa y ya t ta n stride (x_ty ∷ y_ty ∷ t_ty ∷ []) h k =
    let t1 = and_parts (is_memref_of a.scope x x_ty) (is_memref_of a.scope y y_ty && (is_memref_of a.scope t t_ty && same_element x_ty.element y_ty.element)) k in
    let t2 = and_parts (is_memref_of a.scope y y_ty) (is_memref_of a.scope t t_ty && same_element x_ty.element y_ty.element) t1.1 in
    let t3 = and_parts (is_memref_of a.scope t t_ty) (same_element x_ty.element y_ty.element) t2.1 in
    start_is e x xa y ya t ta (layout_of e n stride) x_ty y_ty t_ty (StartsWithin bound) (λ k. tt)
    (λ u whole tag. record { tag = (let b = h t t_ty tag.first t3.0 tag.is in let l = tag.high in omega (arith, b, l)); whole_chunks = whole })
start_within bound a e x xa y ya t ta n stride [] h k = absurd (let z : ⊥ = cc in z)
start_within bound a e x xa y ya t ta n stride (x_ty ∷ []) h k = absurd (let z : ⊥ = cc in z)
start_within bound a e x xa y ya t ta n stride (x_ty ∷ y_ty ∷ []) h k = absurd (let z : ⊥ = cc in z)
start_within bound a e x xa y ya t ta n stride (x_ty ∷ y_ty ∷ t_ty ∷ other ∷ more) h k = absurd (let z : ⊥ = cc in z)

within_action : (bound : ℕ) (a : Around) (e : Env) (p : Plain) (rest : Nest) → TagsBelow bound a.scope e.home → Holds (counted a) p rest → StartsWithin bound (action_of p e)
unfolding action_of
within_action bound a e (Start x xa y ya t ta n stride types) rest h k = start_within bound a e x xa y ya t ta n stride types h k.types
within_action bound a e (Value r pick at) rest h k = tt
within_action bound a e (Load r x at ty) rest h k = tt
within_action bound a e (Store x y at ty) rest h k = tt
within_action bound a e (RawLoad r x at ty) rest h k = tt
within_action bound a e (RawStore x y at ty) rest h k = tt
within_action bound a e (Constant r z (scalar.Int element)) rest h k = tt
within_action bound a e (Constant r z scalar.Index) rest h k = tt
within_action bound a e (Binary r op x y ty) rest h k = tt
within_action bound a e (Cast r kind x from to) rest h k = tt
within_action bound a e (Alloc r ty) rest h k = by (is_fast ty)
  where
    by : (t : Bool) → StartsWithin bound (if t then Allocates e.fasts ty.element ty.sizes else AllocatesTags e.tags (product ty.sizes))
    by true = tt
    by false = tt
within_action bound a e (Dealloc m ty) rest h k = by (e.home m)
  where
    by : (o : Option Home) → StartsWithin bound (dealloc_of o ty)
    by None = tt
    by (Some (SlowMemref number first)) = tt
    by (Some (FastMemref j)) = tt
    by (Some (TagMemref first)) = tt
within_action bound a e (Wait t at n ty) rest h k = by (tag_of e t at ty) _
  where
    by : (o : Option ℕ) (count : ℕ) → StartsWithin bound (wait_of o count)
    by None count = tt
    by (Some tag) count = tt
within_action bound a e Return rest h k = tt

-- ---- the whole text

module _ (bound : ℕ) where
  pub all_within : (n : Nest) (a : Around) (t : Totals) (e : Env) → TagsBelow bound a.scope e.home → e.tags + tags_in n ≤ bound → told n a ≡ Passed t → AllWithin bound (actions n e)
  unfolding told actions
  all_within Nothing a t e h room q = tt
  all_within (Loop line x l u s body rest) a t e h room q =
      let j = judged_passed line (rule_of_loop (counted a) x l u s) _ t q in
      let p = then_passed (told body (in_loop x l u (counted a))) (λ t. told rest (with_totals t a)) t j.1 in
      all_append bound (flat_map (λ t. actions body (knows e x t)) (turns (lower_of e l) (upper_of e u) s)) (actions rest (behind body e))
      (all_turns bound (λ t. actions body (knows e x t)) (λ z. all_within body (in_loop x l u (counted a)) p.0 (knows e x z) (below_put bound a.scope e.home x _ (λ ty. refl) h) (omega (arith, room)) p.1) (turns (lower_of e l) (upper_of e u) s))
      (all_within rest (with_totals p.0 a) t (behind body e) h (omega (arith, room)) p.2)
  all_within (Branch line set names first has other rest) a t e h room q =
      let j = judged_passed line (rule_of_condition (counted a) set names) _ t q in
      let p = then_passed (told first (in_condition (counted a))) (λ t. then_told (told other (in_condition (with_totals t a))) (λ u. told rest (with_totals u a))) t j.1 in
      let w = then_passed (told other (in_condition (with_totals p.0 a))) (λ u. told rest (with_totals u a)) t p.2 in
      all_append bound (if holds_at e set names then actions first e else actions other (behind first e)) (actions rest (behind other (behind first e)))
      (all_either bound (holds_at e set names) (actions first e) (actions other (behind first e))
      (all_within first (in_condition (counted a)) p.0 e h (omega (arith, room)) p.1)
      (all_within other (in_condition (with_totals p.0 a)) w.0 (behind first e) h (omega (arith, room)) w.1))
      (all_within rest (with_totals w.0 a) t (behind other (behind first e)) h (omega (arith, room)) w.2)
  all_within (Does line p rest) a t e h room q =
      let j = judged_passed line (rule_of_plain (counted a) p rest) _ t q in
      let holds = plain_holds (counted a) p rest j.0 in (
        within_action bound a e p rest h holds,
        all_within rest (behind_plain p (counted a)) t (after_plain p e) (below_behind bound a e p h (omega (arith, room))) (let r = tags_behind p e in omega (arith, room, r)) j.1,
      )
