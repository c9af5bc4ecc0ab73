-- A register is read only behind the action that sets it.
use Rattle.std.proofs.Common.{◌≡◌, ℤ, ◌≤ℤ◌, ◌<ℤ◌, Bool, true, false, List, [], ◌∷◌, ◌++◌, map, refl, sym, ap, ◌∙◌, subst}
use Rattle.std.specs.Prelude.{◌&&◌, Option, Some, None, flat_map, if◌then◌else◌}
use Rattle.std.specs.List.{list_all}
use Rattle.std.proofs.lemmas.Bool.{and_parts}
use Rattle.std.proofs.lemmas.List.Folds.{list_all-append}
use Rattle.affine_ast.specs.declared.name.Name.{Name}
use Rattle.affine_ast.specs.declared.types.Scalar.{Scalar}
use Rattle.affine_ast.specs.declared.types.Scalar.TheVariants as scalar
use Rattle.affine_ast.specs.Names.{same_name, put}
use Rattle.affine_ast.proofs.Names.{put-same, put-other}
use Rattle.affine_ast.specs.Nest.{Plain, Nest, Nothing, Loop, Branch, Does, Value, Load, Store, RawLoad, RawStore, Constant, Binary, Cast, Alloc, Dealloc, Start, Wait, Return}
use Rattle.affine_ast.specs.PlainLimits.{plain_stands}
use Rattle.affine_ast.specs.Rules.{binding_is_scalar, is_of, is_memref_of, are_indexes, casts_between}
use Rattle.affine_ast.specs.Scope.{Binding, Variable, Symbol, IndexConstant, Data, MemrefArgument, Allocation, Scope, Totals, Around, counted, in_loop, in_condition, with_totals, behind_plain, binding_of_constant}
use Rattle.affine_ast.specs.Validity.{Passed, then_told, told, rule_of_plain, rule_of_loop, rule_of_condition}
use Rattle.direct_meaning.specs.Action.{Home, Action, Known, Sets, Loads, Stores, RawLoads, RawStores, Operates, Converts, Allocates, Releases, AllocatesTags, ReleasesTags, Starts, Waits, Faults, Returns}
use Rattle.direct_meaning.specs.Actions.{action_of, constant_of, after_plain, behind, actions}
use Rattle.direct_meaning.specs.Static.{Env, knows, operand_of, operand, lower_of, upper_of, holds_at}
use Rattle.direct_meaning.specs.Turns.{turns}
use Rattle.direct_meaning.proofs.WorkLaws.{Every, Between, all_between}
use Rattle.valid_laws.specs.Safe.{SafeNest}
use Rattle.valid_laws.proofs.Passing.{Holds, judged_passed, then_passed, plain_holds, loop_holds}
use Rattle.valid_laws.proofs.SafeHolds.{plain_stands as stands_behind, turn_stands}
use Rattle.valid_laws.proofs.Scoped.{Stands, ScopeStands}
use Rattle.valid_laws.proofs.Small.{small_between}
use Rattle.run_laws.specs.CanRun.{register_of, reads, held_after, ReadsHeld}
use Rattle.run_laws.proofs.PlainText.{PlainText}

-- ---- the names of data in scope hold some

abbrev pub IsHeld : Option Binding → Bool → Type 0
IsHeld None t = Unit {0}
IsHeld (Some (Variable r)) t = Unit {0}
IsHeld (Some (Symbol r)) t = Unit {0}
IsHeld (Some (IndexConstant c)) t = Unit {0}
IsHeld (Some (Data ty)) t = t ≡ true
IsHeld (Some (MemrefArgument ty)) t = Unit {0}
IsHeld (Some (Allocation ty)) t = Unit {0}

abbrev pub Covers : Scope → (Name → Bool) → Type 0
Covers s held = (n : Name) → IsHeld (s n) (held n)

more_held : (b : Option Binding) (t u : Bool) → (t ≡ true → u ≡ true) → IsHeld b t → IsHeld b u
more_held None t u f h = tt
more_held (Some (Variable r)) t u f h = tt
more_held (Some (Symbol r)) t u f h = tt
more_held (Some (IndexConstant c)) t u f h = tt
more_held (Some (Data ty)) t u f h = f h
more_held (Some (MemrefArgument ty)) t u f h = tt
more_held (Some (Allocation ty)) t u f h = tt

-- what holds data goes on to
put_held : (held : Name → Bool) (r n : Name) → held n ≡ true → put held r true n ≡ true
put_held held r n h = by (same_name r n) refl
  where
    by : (t : Bool) → same_name r n ≡ t → put held r true n ≡ true
    by true t = put-same held r true n t
    by false t = put-other held r true n t ∙ h

still_held : (a : Action) (held : Name → Bool) (n : Name) → held n ≡ true → held_after a held n ≡ true
still_held Known held n h = h
still_held (Sets r z) held n h = put_held held r n h
still_held (Loads r place) held n h = put_held held r n h
still_held (Stores x place) held n h = h
still_held (RawLoads r home sizes subscripts) held n h = put_held held r n h
still_held (RawStores x home sizes subscripts) held n h = h
still_held (Operates r op bits a b) held n h = put_held held r n h
still_held (Converts r kind from to x) held n h = put_held held r n h
still_held (Allocates number element sizes) held n h = h
still_held (Releases number element sizes) held n h = h
still_held (AllocatesTags first count) held n h = h
still_held (ReleasesTags first count) held n h = h
still_held (Starts t) held n h = h
still_held (Waits tag count) held n h = h
still_held (Faults k) held n h = h
still_held Returns held n h = h

pub covers_after : (s : Scope) (a : Action) (held : Name → Bool) → Covers s held → Covers s (held_after a held)
covers_after s a held h n = more_held (s n) (held n) (held_after a held n) (still_held a held n) (h n)

-- a name more
covers_data : (s : Scope) (r : Name) (ty : Scalar) (held : Name → Bool) → Covers s held → Covers (put s r (Some (Data ty))) (put held r true)
covers_data s r ty held h n = by (same_name r n) refl
  where
    by : (t : Bool) → same_name r n ≡ t → IsHeld (put s r (Some (Data ty)) n) (put held r true n)
    by true t = subst (λ x. x) (λ i. IsHeld (sym (put-same s r (Some (Data ty)) n t) i) (sym (put-same held r true n t) i)) refl
    by false t = subst (λ x. x) (λ i. IsHeld (sym (put-other s r (Some (Data ty)) n t) i) (sym (put-other held r true n t) i)) (h n)

pub covers_static : (s : Scope) (r : Name) (b : Binding) (held : Name → Bool) → ((t : Bool) → IsHeld (Some b) t) → Covers s held → Covers (put s r (Some b)) held
covers_static s r b held k h n = by (same_name r n) refl
  where
    by : (t : Bool) → same_name r n ≡ t → IsHeld (put s r (Some b) n) (held n)
    by true t = subst (λ x. IsHeld x (held n)) (sym (put-same s r (Some b) n t)) (k (held n))
    by false t = subst (λ x. IsHeld x (held n)) (sym (put-other s r (Some b) n t)) (h n)

covers_constant : (s : Scope) (r : Name) (z : ℤ) (ty : Scalar) (held : Name → Bool) → Covers s held → Covers (put s r (Some (binding_of_constant z ty))) (held_after (constant_of r z ty) held)
covers_constant s r z (scalar.Int element) held h = covers_data s r (scalar.Int element) held h
covers_constant s r z scalar.Index held h = covers_static s r _ held (λ t. tt) h

covers_behind : (a : Around) (p : Plain) (e : Env) (held : Name → Bool) → plain_stands p ≡ true → Covers a.scope held → Covers (behind_plain p (counted a)).scope (held_after (action_of p e) held)
unfolding action_of
covers_behind a (Value r pick at) e held q h = covers_static a.scope r _ held (λ t. tt) h
covers_behind a (Load r m at ty) e held q h = covers_data a.scope r (scalar.Int ty.element) held h
covers_behind a (Store x m at ty) e held q h = h
covers_behind a (RawLoad r m at ty) e held q h = covers_data a.scope r (scalar.Int ty.element) held h
covers_behind a (RawStore x m at ty) e held q h = h
covers_behind a (Constant r z ty) e held q h = covers_constant a.scope r z ty held h
covers_behind a (Binary r op x y ty) e held q h = covers_data a.scope r ty held h
covers_behind a (Cast r kind x from to) e held q h = covers_data a.scope r to held h
covers_behind a (Alloc r ty) e held q h = absurd (let z : ⊥ = cc in z)
covers_behind a (Dealloc m ty) e held q h = absurd (let z : ⊥ = cc in z)
covers_behind a (Start x xa y ya u ta n stride types) e held q h = absurd (let z : ⊥ = cc in z)
covers_behind a (Wait u at n ty) e held q h = absurd (let z : ⊥ = cc in z)
covers_behind a Return e held q h = h

-- ---- what an action reads

data_held : (b : Option Binding) (known : Option ℤ) (home : Option Home) (ty : Scalar) (t : Bool) → Stands b known home → IsHeld b t → binding_is_scalar b ty ≡ true → known ≡ None → t ≡ true
data_held None known home ty t h k q e = absurd (let y : ⊥ = cc in y)
data_held (Some (Variable r)) known home ty t h k q e = absurd (let c = h.0.is in let y : ⊥ = cc in y)
data_held (Some (Symbol r)) known home ty t h k q e = absurd (let c = h.0.is in let y : ⊥ = cc in y)
data_held (Some (IndexConstant c)) known home ty t h k q e = absurd (let d = h.0 in let y : ⊥ = cc in y)
data_held (Some (Data of)) known home ty t h k q e = k
data_held (Some (MemrefArgument of)) known home ty t h k q e = absurd (let y : ⊥ = cc in y)
data_held (Some (Allocation of)) known home ty t h k q e = absurd (let y : ⊥ = cc in y)

register_held : (held : Name → Bool) (n : Name) (o : Option ℤ) → (o ≡ None → held n ≡ true) → list_all held (register_of (operand_of n o)) ≡ true
register_held held n None f = ap (λ t. t && true) (f refl)
register_held held n (Some z) f = refl

both_held : (held : Name → Bool) (xs ys : List Name) → list_all held xs ≡ true → list_all held ys ≡ true → list_all held (xs ++ ys) ≡ true
both_held held xs ys h k = list_all-append held xs ys ∙ (λ i. h i && k i)

constant_reads : (held : Name → Bool) (r : Name) (z : ℤ) (ty : Scalar) → list_all held (reads (constant_of r z ty)) ≡ true
constant_reads held r z (scalar.Int element) = refl
constant_reads held r z scalar.Index = refl

module _ (s : Scope) (e : Env) (h : ScopeStands s e) (held : Name → Bool) (covers : Covers s held) where
  operand_held : (n : Name) (ty : Scalar) → is_of s n ty ≡ true → list_all held (register_of (operand e n)) ≡ true
  unfolding is_of
  operand_held n ty t = register_held held n (e.known n) (λ k. data_held (s n) (e.known n) (e.home n) ty (held n) (h n) (covers n) t k)

  indexes_held : (names : List Name) → are_indexes s names ≡ true → list_all held (flat_map register_of (map (operand e) names)) ≡ true
  unfolding are_indexes
  indexes_held [] t = refl
  indexes_held (n ∷ names) t =
      let two = and_parts (is_of s n scalar.Index) (list_all (λ n. is_of s n scalar.Index) names) t in
      both_held held (register_of (operand e n)) (flat_map register_of (map (operand e) names)) (operand_held n scalar.Index two.0) (indexes_held names two.1)

reads_held : (a : Around) (p : Plain) (rest : Nest) (e : Env) (held : Name → Bool) → ScopeStands a.scope e → Covers a.scope held → Holds (counted a) p rest → plain_stands p ≡ true → list_all held (reads (action_of p e)) ≡ true
unfolding action_of
reads_held a (Value r pick at) rest e held h c k q = refl
reads_held a (Load r m at ty) rest e held h c k q = refl
reads_held a (Store x m at ty) rest e held h c k q =
    let two = and_parts (is_of a.scope x (scalar.Int ty.element)) (is_memref_of a.scope m ty) k.types in
    operand_held a.scope e h held c x (scalar.Int ty.element) two.0
reads_held a (RawLoad r m at ty) rest e held h c k q =
    let two = and_parts (is_memref_of a.scope m ty) (are_indexes a.scope at) k.types in
    indexes_held a.scope e h held c at two.1
reads_held a (RawStore x m at ty) rest e held h c k q =
    let one = and_parts (is_of a.scope x (scalar.Int ty.element)) (is_memref_of a.scope m ty && are_indexes a.scope at) k.types in
    let two = and_parts (is_memref_of a.scope m ty) (are_indexes a.scope at) one.1 in
    both_held held (register_of (operand e x)) (flat_map register_of (map (operand e) at)) (operand_held a.scope e h held c x (scalar.Int ty.element) one.0) (indexes_held a.scope e h held c at two.1)
reads_held a (Constant r z ty) rest e held h c k q = constant_reads held r z ty
reads_held a (Binary r op x y ty) rest e held h c k q =
    let two = and_parts (is_of a.scope x ty) (is_of a.scope y ty) k.types in
    both_held held (register_of (operand e x)) (register_of (operand e y)) (operand_held a.scope e h held c x ty two.0) (operand_held a.scope e h held c y ty two.1)
reads_held a (Cast r kind x from to) rest e held h c k q =
    let two = and_parts (is_of a.scope x from) (casts_between kind from to) k.types in
    operand_held a.scope e h held c x from two.0
reads_held a (Alloc r ty) rest e held h c k q = absurd (let z : ⊥ = cc in z)
reads_held a (Dealloc m ty) rest e held h c k q = absurd (let z : ⊥ = cc in z)
reads_held a (Start x xa y ya u ta n stride types) rest e held h c k q = absurd (let z : ⊥ = cc in z)
reads_held a (Wait u at n ty) rest e held h c k q = absurd (let z : ⊥ = cc in z)
reads_held a Return rest e held h c k q = refl

-- ---- along the list

-- a list that reads nothing else, from all registers that cover a scope
abbrev pub Reads : Scope → List Action → Type 0
Reads s xs = (held : Name → Bool) → Covers s held → ReadsHeld xs held

reads_append : (s : Scope) (xs ys : List Action) → Reads s xs → Reads s ys → Reads s (xs ++ ys)
reads_append s xs ys f g held c = by xs held c (f held c)
  where
    by : (xs : List Action) (held : Name → Bool) → Covers s held → ReadsHeld xs held → ReadsHeld (xs ++ ys) held
    by [] held c h = g held c
    by (a ∷ xs) held c h = (h.0, by xs (held_after a held) (covers_after s a held c) h.1)

reads_turns : (s : Scope) (low high : ℤ) (f : ℤ → List Action) (ts : List ℤ) → Every (Between low high) ts → ((t : ℤ) → low ≤ℤ t → t <ℤ high → Reads s (f t)) → Reads s (flat_map f ts)
reads_turns s low high f [] b k = λ held c. tt
reads_turns s low high f (t ∷ ts) b k = reads_append s (f t) (flat_map f ts) (k t b.0.0 b.0.1) (reads_turns s low high f ts b.1 k)

reads_either : (s : Scope) (b : Bool) (xs ys : List Action) → Reads s xs → Reads s ys → Reads s (if b then xs else ys)
reads_either s true xs ys f g = f
reads_either s false xs ys f g = g

pub reads_of_told : (n : Nest) (a : Around) (t : Totals) (e : Env) → ScopeStands a.scope e → SafeNest n e → PlainText n → told n a ≡ Passed t → Reads a.scope (actions n e)
unfolding told actions
reads_of_told Nothing a t e h v q k = λ held c. tt
reads_of_told (Loop line x l u s body rest) a t e h v q k =
    let j = judged_passed line (rule_of_loop (counted a) x l u s) _ t k in
    let p = then_passed (told body (in_loop x l u (counted a))) (λ t. told rest (with_totals t a)) t j.1 in
    let new = (loop_holds (counted a) x l u s j.0).new_name in
    let inner = λ (z : ℤ) (from : lower_of e l ≤ℤ z) (to : z <ℤ upper_of e u) (held : Name → Bool) (c : Covers a.scope held).
    reads_of_told body (in_loop x l u (counted a)) p.0 (knows e x z) (turn_stands a.scope e x _ z h new (small_between _ _ z v.1.lower_small v.1.upper_small from to)) (v.2 z from to) q.0 p.1 held (covers_static a.scope x _ held (λ t. tt) c) in
    reads_append a.scope (flat_map (λ t. actions body (knows e x t)) (turns (lower_of e l) (upper_of e u) s)) (actions rest (behind body e))
    (reads_turns a.scope (lower_of e l) (upper_of e u) (λ t. actions body (knows e x t)) (turns (lower_of e l) (upper_of e u) s) (all_between (lower_of e l) (upper_of e u) s) inner)
    (reads_of_told rest (with_totals p.0 a) t (behind body e) h v.3 q.1 p.2)
reads_of_told (Branch line set names first has other rest) a t e h v q k =
    let j = judged_passed line (rule_of_condition (counted a) set names) _ t k in
    let p = then_passed (told first (in_condition (counted a))) (λ t. then_told (told other (in_condition (with_totals t a))) (λ u. told rest (with_totals u a))) t j.1 in
    let r = then_passed (told other (in_condition (with_totals p.0 a))) (λ u. told rest (with_totals u a)) t p.2 in
    reads_append a.scope (if holds_at e set names then actions first e else actions other (behind first e)) (actions rest (behind other (behind first e)))
    (reads_either a.scope (holds_at e set names) (actions first e) (actions other (behind first e))
    (reads_of_told first (in_condition (counted a)) p.0 e h v.2 q.0 p.1)
    (reads_of_told other (in_condition (with_totals p.0 a)) r.0 (behind first e) h v.3 q.1 r.1))
    (reads_of_told rest (with_totals r.0 a) t (behind other (behind first e)) h v.4 q.2 r.2)
reads_of_told (Does line p rest) a t e h v q k =
    let j = judged_passed line (rule_of_plain (counted a) p rest) _ t k in
    let holds = plain_holds (counted a) p rest j.0 in
    λ held c. (reads_held a p rest e held h c holds q.0, reads_of_told rest (behind_plain p (counted a)) t (after_plain p e) (stands_behind a p rest e h holds v.1) v.2 q.1 j.1 (held_after (action_of p e) held) (covers_behind a p e held q.0 c))
