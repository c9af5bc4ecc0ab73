-- A valid text is safe wherever the list of its actions is made.
use Rattle.std.proofs.Common.{◌≡◌, ℕ, suc, ◌+◌, ℤ, ◌<ℤ◌, pos, Bool, true, false, refl, sym, ap, ◌∙◌, subst, arith}
use Rattle.std.specs.Prelude.{◌&&◌, not, nat_eq, Option, Some, None, if◌then◌else◌}
use Rattle.std.proofs.lemmas.Bool.{and_parts}
use Rattle.std.proofs.lemmas.Int.{ints}
use mathlib.Core.Path.{fun_ext}
use Rattle.affine_expr.specs.Spread.{Range}
use Rattle.affine_ast.specs.declared.name.Name.{Name}
use Rattle.affine_ast.specs.declared.types.Access.{Access}
use Rattle.affine_ast.specs.declared.types.Bound.{Bound}
use Rattle.affine_ast.specs.declared.types.MemrefType.{MemrefType}
use Rattle.affine_ast.specs.declared.types.Pick.{Pick}
use Rattle.affine_ast.specs.declared.types.Scalar.{Scalar}
use Rattle.affine_ast.specs.declared.types.Scalar.TheVariants as scalar
use Rattle.affine_ast.specs.Names.{same_name, put}
use Rattle.affine_ast.proofs.Names.{put-same, put-other, same_name-eq}
use Rattle.affine_ast.specs.Nest.{Plain, Nest, Nothing, Loop, Branch, Does, Value, Load, Store, RawLoad, RawStore, Constant, Binary, Cast, Alloc, Dealloc, Start, Wait, Return}
use Rattle.affine_ast.specs.Rules.{map_fits, results_fit, access_stands, bound_stands, bound_fits, bound_bounded, bound_pure, step_positive, is_value, are_values, is_of, is_memref_of, are_indexes, casts_between, is_loadable, is_live, is_allocated, ends_in_spaces, is_count, constant_of, stride_well, is_in, is_new_result}
use Rattle.affine_ast.specs.Parts.{stride_names, Effect, NewIndex, NewConstant, NewData, NewMemref, effect_of, result_of_effect}
use Rattle.affine_ast.specs.Scope.{Binding, Variable, IndexConstant, Data, Allocation, Scope, Totals, Around, counted, in_loop, in_condition, with_totals, behind_effect, behind_plain, binding_of_constant}
use Rattle.affine_ast.specs.Validity.{Passed, then_told, told, rule_of_plain, rule_of_loop, rule_of_condition}
use Rattle.direct_meaning.specs.Action.{Home, FastMemref, TagMemref}
use Rattle.direct_meaning.specs.Actions.{is_fast, fasts_of_effect, tags_of_effect, fasts_of_plain, tags_of_plain, after_effect, after_plain, after_constant, after_alloc, behind}
use Rattle.direct_meaning.specs.Static.{Env, product, knows, results_of, picked}
use Rattle.valid_laws.specs.Evaluable.{EvaluableBound, EvaluablePlain, EvaluableNest}
use Rattle.valid_laws.specs.Safe.{IsSmall, CountsFit, SafeAccess, SafeLoop, IsMemref, new_home, SafePlain, SafeNest}
use Rattle.valid_laws.proofs.Counted.{IsCounted, counted_one, alloc_holds, plain_counted, counted_behind}
use Rattle.valid_laws.proofs.Passing.{Holds, LoopHolds, judged_passed, then_passed, plain_holds, loop_holds, condition_holds}
use Rattle.valid_laws.proofs.SafePlaces.{alloc_safe, can_cast, results_safe, access_safe, bound_safe, lower_safe, upper_safe, condition_safe, place_safe, raw_safe, ends_safe}
use Rattle.valid_laws.proofs.Scoped.{Stands, ScopeStands, operand_fits, memref_of, space_of_allocation, count_of, chunks_of, new_name, stands_put}
use Rattle.valid_laws.proofs.Small.{picked_small, range_of_test, small_between}

-- ---- a plain statement by itself

value_safe : (s : Scope) (e : Env) → ScopeStands s e → (pick : Pick) (at : Access) → SafeAccess e at → IsSmall (picked pick (results_of e at))
value_safe s e h pick at v = picked_small pick (results_of e at) v.small

pub plain_safe : (a : Around) (p : Plain) (rest : Nest) (e : Env) → ScopeStands a.scope e → IsCounted a.totals e.fasts e.tags → Holds (counted a) p rest → EvaluablePlain e p → SafePlain e p
plain_safe a (Value r pick at) rest e h c k v =
    let f = and_parts (map_fits at) (results_fit pick at) k.counts in
    let safe = access_safe a.scope e h at f.0 k.stand v in
    record { access = safe; results = results_safe pick at f.1; small = value_safe a.scope e h pick at safe }
plain_safe a (Load r m at ty) rest e h c k v =
    let l = (and_parts (is_loadable ty) (is_live a m) k.spaces).0 in
    record { place = place_safe a.scope e h m at ty k.counts k.stand k.types v; space = grind (arith, l) }
plain_safe a (Store x m at ty) rest e h c k v =
    let l = (and_parts (is_loadable ty) (is_live a m) k.spaces).0 in
    let t = and_parts (is_of a.scope x (scalar.Int ty.element)) (is_memref_of a.scope m ty) k.types in
    let u = and_parts (is_value a.scope x) (access_stands a.scope at) k.stand in
    (operand_fits a.scope e h x (scalar.Int ty.element) t.0, record { place = place_safe a.scope e h m at ty k.counts u.1 t.1 v; space = grind (arith, l) })
plain_safe a (RawLoad r m at ty) rest e h c k v =
    let l = (and_parts (is_loadable ty) (is_live a m) k.spaces).0 in
    let t = and_parts (is_memref_of a.scope m ty) (are_indexes a.scope at) k.types in
    raw_safe a.scope e h m at ty k.counts l t.0 t.1
plain_safe a (RawStore x m at ty) rest e h c k v =
    let l = (and_parts (is_loadable ty) (is_live a m) k.spaces).0 in
    let t = and_parts (is_of a.scope x (scalar.Int ty.element)) (is_memref_of a.scope m ty && are_indexes a.scope at) k.types in
    let u = and_parts (is_memref_of a.scope m ty) (are_indexes a.scope at) t.1 in
    (operand_fits a.scope e h x (scalar.Int ty.element) t.0, raw_safe a.scope e h m at ty k.counts l u.0 u.1)
plain_safe a (Constant r z ty) rest e h c k v = range_of_test _ z k.constants
plain_safe a (Binary r op x y ty) rest e h c k v =
    let t = and_parts (is_of a.scope x ty) (is_of a.scope y ty) k.types in
    (operand_fits a.scope e h x ty t.0, operand_fits a.scope e h y ty t.1)
plain_safe a (Cast r kind x from to) rest e h c k v =
    let t = and_parts (is_of a.scope x from) (casts_between kind from to) k.types in
    (operand_fits a.scope e h x from t.0, can_cast kind from to t.1)
plain_safe a (Alloc r ty) rest e h c k v =
    let one = counted_one a e.fasts e.tags c k.text in
    alloc_safe (counted a) e ty (alloc_holds (counted a) r ty rest k) (omega (arith, c.fasts)) c.tags one.statements_fit
plain_safe a (Dealloc m ty) rest e h c k v =
    let l = (and_parts (is_allocated a.scope m) (is_live a m) k.spaces).0 in
    (memref_of a.scope e h m ty k.types, space_of_allocation a.scope e h m ty l k.types)
plain_safe a (Start x xa y ya t ta n stride types) rest e h c k v =
    let s1 = and_parts (access_stands a.scope xa) (access_stands a.scope ya && (access_stands a.scope ta && (is_value a.scope n && are_values a.scope (stride_names stride)))) k.stand in
    let s2 = and_parts (access_stands a.scope ya) (access_stands a.scope ta && (is_value a.scope n && are_values a.scope (stride_names stride))) s1.1 in
    let s3 = and_parts (access_stands a.scope ta) (is_value a.scope n && are_values a.scope (stride_names stride)) s2.1 in
    let m1 = and_parts (ends_in_spaces types) (is_count (constant_of a.scope n) && (stride_well a.scope stride && (is_live a x && (is_live a y && is_live a t)))) k.spaces in
    let m2 = and_parts (is_count (constant_of a.scope n)) (stride_well a.scope stride && (is_live a x && (is_live a y && is_live a t))) m1.1 in
    let m3 = and_parts (stride_well a.scope stride) (is_live a x && (is_live a y && is_live a t)) m2.1 in
    (ends_safe a.scope e h x y t xa ya ta types k.counts s1.0 s2.0 s3.0 k.types m1.0 v.0 v.1.0 v.1.1, count_of a.scope e h n m2.0, chunks_of a.scope e h stride m3.0)
plain_safe a (Wait t at n ty) rest e h c k v =
    let s1 = and_parts (access_stands a.scope at) (is_value a.scope n) k.stand in
    let m1 = and_parts (nat_eq ty.space 2) (is_count (constant_of a.scope n) && is_live a t) k.spaces in
    let m2 = and_parts (is_count (constant_of a.scope n)) (is_live a t) m1.1 in
    (place_safe a.scope e h t at ty k.counts s1.0 k.types v, grind (arith, m1.0), count_of a.scope e h n m2.0)
plain_safe a Return rest e h c k v = tt

-- ---- what the names stand for behind it

put_kept : {A : Type 0} (f : Name → A) (n : Name) (x : A) → f n ≡ x → put f n x ≡ f
put_kept f n x e = fun_ext (λ m. by m (same_name n m) refl)
  where
    by : (m : Name) (t : Bool) → same_name n m ≡ t → put f n x m ≡ f m
    by m true t = put-same f n x m t ∙ sym e ∙ ap f (same_name-eq n m t)
    by m false t = put-other f n x m t

module _ (s : Scope) (e : Env) (h : ScopeStands s e) where
  -- a name with a number, or with data
  pub stands_number : (r : Name) (b : Binding) (o : Option ℤ) → not (is_in s r) ≡ true → Stands (Some b) o None → (n : Name) → Stands (put s r (Some b) n) (put e.known r o n) (e.home n)
  stands_number r b o new k =
      subst (λ home. (n : Name) → Stands (put s r (Some b) n) (put e.known r o n) (home n)) (put_kept e.home r None (new_name s e r h new).1) (stands_put s e.known e.home r b o None h k)

  -- a name of a memref
  pub stands_memref : (r : Name) (b : Binding) (m : Home) → not (is_in s r) ≡ true → Stands (Some b) None (Some m) → (n : Name) → Stands (put s r (Some b) n) (e.known n) (put e.home r (Some m) n)
  stands_memref r b m new k =
      subst (λ known. (n : Name) → Stands (put s r (Some b) n) (known n) (put e.home r (Some m) n)) (put_kept e.known r None (new_name s e r h new).0) (stands_put s e.known e.home r b None (Some m) h k)

  stands_constant : (r : Name) (z : ℤ) (ty : Scalar) → not (is_in s r) ≡ true → SafePlain e (Constant r z ty) → ScopeStands (put s r (Some (binding_of_constant z ty))) (after_constant r z ty e)
  stands_constant r z (scalar.Int element) new k = stands_number r (Data (scalar.Int element)) None new (refl, refl)
  stands_constant r z scalar.Index new k = stands_number r (IndexConstant z) (Some z) new (refl, k, refl)

  stands_alloc : (r : Name) (ty : MemrefType) → not (is_in s r) ≡ true → IsMemref (Some (new_home e ty)) ty → ScopeStands (put s r (Some (Allocation ty))) (after_alloc r ty e)
  stands_alloc r ty new k = by (is_fast ty) k
    where
      by : (t : Bool) → IsMemref (Some (if t then FastMemref e.fasts else TagMemref e.tags)) ty
          → ScopeStands (put s r (Some (Allocation ty))) (if t then record e { home = put e.home r (Some (FastMemref e.fasts)); fasts = suc e.fasts } else record e { home = put e.home r (Some (TagMemref e.tags)); tags = e.tags + product ty.sizes })
      by true k = stands_memref r (Allocation ty) (FastMemref e.fasts) new (refl, k, omega (arith, k.stands.space))
      by false k = stands_memref r (Allocation ty) (TagMemref e.tags) new (refl, k, omega (arith, k.stands.space))

-- what is safe of the name that a statement defines
abbrev SafeEffect : Env → Effect → Type 0
SafeEffect e (NewIndex r pick at) = IsSmall (picked pick (results_of e at))
SafeEffect e (NewConstant r z ty) = SafePlain e (Constant r z ty)
SafeEffect e (NewMemref r ty) = IsMemref (Some (new_home e ty)) ty
SafeEffect e x = Unit {0}

safe_effect : (e : Env) (p : Plain) → SafePlain e p → SafeEffect e (effect_of p)
safe_effect e (Value r pick at) v = v.small
safe_effect e (Constant r z ty) v = v
safe_effect e (Alloc r ty) v = v
safe_effect e p v = tt

effect_stands : (a : Around) (x : Effect) (e : Env) → ScopeStands a.scope e → is_new_result a.scope (result_of_effect x) ≡ true → SafeEffect e x → ScopeStands (behind_effect x a).scope (after_effect x e)
effect_stands a (NewIndex r pick at) e h k v = stands_number a.scope e h r _ (Some (picked pick (results_of e at))) k (record { value = picked pick (results_of e at); is = refl; small = v }, refl)
effect_stands a (NewConstant r z ty) e h k v = stands_constant a.scope e h r z ty k v
effect_stands a (NewData r ty) e h k v = stands_number a.scope e h r _ None k (refl, refl)
effect_stands a (NewMemref r ty) e h k v = stands_alloc a.scope e h r ty k v
effect_stands a x e h k v = h

pub plain_stands : (a : Around) (p : Plain) (rest : Nest) (e : Env) → ScopeStands a.scope e → Holds (counted a) p rest → SafePlain e p → ScopeStands (behind_plain p (counted a)).scope (after_plain p e)
unfolding after_plain
plain_stands a p rest e h k v = effect_stands (counted a) (effect_of p) e h k.new_name (safe_effect e p v)

-- the numbers of the next allocations
plus_none : (t : Totals) (f g : ℕ) → IsCounted t (f + 0) (g + 0) → IsCounted t f g
plus_none t f g h = record { statements_fit = h.statements_fit; tags_fit = h.tags_fit; fasts = omega (arith, h.fasts); tags = omega (arith, h.tags) }

effect_counted : (t : Totals) (x : Effect) (e : Env) → IsCounted t (e.fasts + fasts_of_effect x) (e.tags + tags_of_effect x) → IsCounted t (after_effect x e).fasts (after_effect x e).tags
effect_counted t (NewConstant r z (scalar.Int element)) e h = plus_none t e.fasts e.tags h
effect_counted t (NewConstant r z scalar.Index) e h = plus_none t e.fasts e.tags h
effect_counted t (NewMemref r ty) e h = by (is_fast ty) h
  where
    by : (b : Bool) → IsCounted t (e.fasts + (if b then 1 else 0)) (e.tags + (if b then 0 else product ty.sizes))
        → IsCounted t (if b then record e { home = put e.home r (Some (FastMemref e.fasts)); fasts = suc e.fasts } else record e { home = put e.home r (Some (TagMemref e.tags)); tags = e.tags + product ty.sizes }).fasts (if b then record e { home = put e.home r (Some (FastMemref e.fasts)); fasts = suc e.fasts } else record e { home = put e.home r (Some (TagMemref e.tags)); tags = e.tags + product ty.sizes }).tags
    by true h = record { statements_fit = h.statements_fit; tags_fit = h.tags_fit; fasts = omega (arith, h.fasts); tags = omega (arith, h.tags) }
    by false h = record { statements_fit = h.statements_fit; tags_fit = h.tags_fit; fasts = omega (arith, h.fasts); tags = omega (arith, h.tags) }
effect_counted t x e h = plus_none t e.fasts e.tags h

pub after_counted : (t : Totals) (p : Plain) (e : Env) → IsCounted t (e.fasts + fasts_of_plain p) (e.tags + tags_of_plain p) → IsCounted t (after_plain p e).fasts (after_plain p e).tags
unfolding after_plain
after_counted t p e h = effect_counted t (effect_of p) e h

-- ---- wherever the list of actions is made

counts_fit_of : (t : Totals) (e : Env) → IsCounted t e.fasts e.tags → CountsFit e
counts_fit_of t e c = record { fasts = omega (arith, c.fasts, c.statements_fit); tags = omega (arith, c.tags, c.tags_fit) }

positive : (s : ℤ) → step_positive s ≡ true → pos 0 <ℤ s
positive s h = grind (arith, ints, h)

loop_safe : (a : Around) (v : Name) (l u : Bound) (s : ℤ) (e : Env) → ScopeStands a.scope e → LoopHolds (counted a) v l u s → EvaluableBound e l → EvaluableBound e u → SafeLoop e l u s
loop_safe a v l u s e h k vl vu =
    let f = and_parts (bound_fits l) (bound_fits u) k.fits in
    let t = and_parts (bound_stands a.scope l) (bound_stands a.scope u) k.stand in
    let b = and_parts (bound_bounded a.scope l) (bound_bounded a.scope u) k.bounded in
    let q = and_parts (bound_pure l) (bound_pure u && step_positive s) k.pure in
    let lower_bound = bound_safe a.scope e h l f.0 t.0 b.0 vl in
    let upper_bound = bound_safe a.scope e h u f.1 t.1 b.1 vu in
    record {
      lower = lower_bound;
      upper = upper_bound;
      lower_small = lower_safe a.scope e h l t.0 b.0 lower_bound;
      upper_small = upper_safe a.scope e h u t.1 b.1 upper_bound;
      step = positive s (and_parts (bound_pure u) (step_positive s) q.1).1;
    }

pub turn_stands : (s : Scope) (e : Env) (v : Name) (r : Range) (z : ℤ) → ScopeStands s e → not (is_in s v) ≡ true → IsSmall z → ScopeStands (put s v (Some (Variable r))) (knows e v z)
turn_stands s e v r z h new small = stands_number s e h v (Variable r) (Some z) new (record { value = z; is = refl; small = small }, refl)

pub safe_of_told : (n : Nest) (a : Around) (t : Totals) (e : Env) → ScopeStands a.scope e → IsCounted a.totals e.fasts e.tags → EvaluableNest n e → told n a ≡ Passed t → SafeNest n e
unfolding told
safe_of_told Nothing a t e h c v k = counts_fit_of a.totals e c
safe_of_told (Loop line x l u s body rest) a t e h c v k =
    let j = judged_passed line (rule_of_loop (counted a) x l u s) _ t k in
    let p = then_passed (told body (in_loop x l u (counted a))) (λ t. told rest (with_totals t a)) t j.1 in
    let holds = loop_holds (counted a) x l u s j.0 in
    let one = counted_one a e.fasts e.tags c holds.text in
    let safe = loop_safe a x l u s e h holds v.0 v.1 in (
      counts_fit_of a.totals e c,
      safe,
      λ z from to. safe_of_told body (in_loop x l u (counted a)) p.0 (knows e x z) (turn_stands a.scope e x _ z h holds.new_name (small_between _ _ z safe.lower_small safe.upper_small from to)) one (v.2 z from to) p.1,
      safe_of_told rest (with_totals p.0 a) t (behind body e) h (counted_behind body (in_loop x l u (counted a)) p.0 e.fasts e.tags one p.1) v.3 p.2,
    )
safe_of_told (Branch line set names first has other rest) a t e h c v k =
    let j = judged_passed line (rule_of_condition (counted a) set names) _ t k in
    let p = then_passed (told first (in_condition (counted a))) (λ t. then_told (told other (in_condition (with_totals t a))) (λ u. told rest (with_totals u a))) t j.1 in
    let q = then_passed (told other (in_condition (with_totals p.0 a))) (λ u. told rest (with_totals u a)) t p.2 in
    let holds = condition_holds (counted a) set names j.0 in
    let one = counted_one a e.fasts e.tags c holds.text in
    let two = counted_behind first (in_condition (counted a)) p.0 e.fasts e.tags one p.1 in
    let three = counted_behind other (in_condition (with_totals p.0 a)) q.0 (behind first e).fasts (behind first e).tags two q.1 in (
      counts_fit_of a.totals e c,
      condition_safe a.scope e h set names holds.fits holds.stand v.0,
      safe_of_told first (in_condition (counted a)) p.0 e h one v.1 p.1,
      safe_of_told other (in_condition (with_totals p.0 a)) q.0 (behind first e) h two v.2 q.1,
      safe_of_told rest (with_totals q.0 a) t (behind other (behind first e)) h three v.3 q.2,
    )
safe_of_told (Does line p rest) a t e h c v k =
    let j = judged_passed line (rule_of_plain (counted a) p rest) _ t k in
    let holds = plain_holds (counted a) p rest j.0 in
    let safe = plain_safe a p rest e h c holds v.0 in
    (counts_fit_of a.totals e c, safe, safe_of_told rest (behind_plain p (counted a)) t (after_plain p e) (plain_stands a p rest e h holds safe) (after_counted _ p e (plain_counted a p rest e.fasts e.tags c holds)) v.1 j.1)
