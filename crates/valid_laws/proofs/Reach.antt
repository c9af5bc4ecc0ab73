-- The intervals of a valid module.
use Rattle.std.proofs.Common.{◌≡◌, ℤ, pos, Bool, true, false, List, [], ◌∷◌, map, take, drop, refl, sym, ap, ◌∙◌}
use Rattle.std.specs.Prelude.{◌&&◌, not, Option, Some, None, is_some, fold}
use Rattle.std.specs.List.{list_all}
use Rattle.std.proofs.lemmas.Bool.{and_parts}
use mathlib.Core.Path.{fun_ext}
use Rattle.affine_expr.specs.declared.map.Set.{Set}
use Rattle.affine_expr.specs.Spread.{Range, only}
use Rattle.affine_ast.specs.declared.module.Arg.{Arg}
use Rattle.affine_ast.specs.declared.module.ArgKind.{ArgKind}
use Rattle.affine_ast.specs.declared.module.ArgKind.TheVariants.{Memref, Index}
use Rattle.affine_ast.specs.declared.module.Module.{Module}
use Rattle.affine_ast.specs.declared.name.Name.{Name}
use Rattle.affine_ast.specs.declared.types.Access.{Access}
use Rattle.affine_ast.specs.declared.types.Bound.{Bound}
use Rattle.affine_ast.specs.declared.types.Bound.TheVariants as bound
use Rattle.affine_ast.specs.declared.types.Scalar.{Scalar}
use Rattle.affine_ast.specs.declared.types.Scalar.TheVariants as scalar
use Rattle.affine_ast.specs.Intervals.{Ranges, ranges_at, picked_range, first_turn, last_end, turn_range}
use Rattle.affine_ast.specs.Names.{same_name, put}
use Rattle.affine_ast.proofs.Names.{put-same, put-other, same_name-eq}
use Rattle.affine_ast.specs.Nest.{Plain, Nest, Nothing, Loop, Branch, Does, nest}
use Rattle.affine_ast.specs.Parts.{maps_of, Effect, NewIndex, NewConstant, NewData, NewMemref, effect_of, result_of_effect}
use Rattle.affine_ast.proofs.Parts.{Every-passed}
use Rattle.affine_ast.specs.Rules.{is_in, is_new_result, has_interval, row_bounded, is_small_dimension, access_bounded, set_bounded, bound_bounded, maps_bounded}
use Rattle.affine_ast.specs.Scope.{Binding, Variable, Scope, range_of_binding, ranges_in, binding_of_constant, Totals, Around, counted, in_loop, in_condition, with_totals, behind_effect, behind_plain}
use Rattle.affine_ast.specs.Validity.{Passed, then_told, told, told_arguments, rule_of_plain, rule_of_loop, rule_of_condition, rule_of_argument, behind_argument, told_module, outside, first_broken, IsValid}
use Rattle.direct_meaning.specs.Work.{ranges_effect, ranges_after, ranges_after_constant, arg_ranges, start_ranges}
use Rattle.valid_laws.specs.Bounded.{BoundedAccess, BoundedSet, BoundedBound, BoundedPlain, BoundedNest}
use Rattle.valid_laws.proofs.Passing.{rule_held, judged_passed, then_passed, plain_holds, loop_holds, condition_holds, passed_of}

cases : {P : Type 0} (b : Bool) → (b ≡ true → P) → (b ≡ false → P) → P
cases true y n = y refl
cases false y n = n refl

-- ---- the ranges of a scope with a name more

ranges_put : (s : Scope) (n : Name) (b : Binding) → ranges_in (put s n (Some b)) ≡ put (ranges_in s) n (range_of_binding (Some b))
unfolding ranges_in
ranges_put s n b = fun_ext (λ m. cases (same_name n m)
    (λ t. ap range_of_binding (put-same s n (Some b) m t) ∙ sym (put-same (ranges_in s) n (range_of_binding (Some b)) m t))
    (λ t. ap range_of_binding (put-other s n (Some b) m t) ∙ sym (put-other (ranges_in s) n (range_of_binding (Some b)) m t)))

put_self : (f : Ranges) (n : Name) → put f n (f n) ≡ f
put_self f n = fun_ext (λ m. cases (same_name n m) (λ t. put-same f n (f n) m t ∙ ap f (same_name-eq n m t)) (λ t. put-other f n (f n) m t))

not_there : (o : Option Binding) → not (is_some o) ≡ true → o ≡ None
not_there None h = refl
not_there (Some b) h = absurd (let z : ⊥ = cc in z)

new_range : (s : Scope) (n : Name) → not (is_in s n) ≡ true → ranges_in s n ≡ only (pos 0)
unfolding is_in ranges_in
new_range s n h = ap range_of_binding (not_there (s n) h)

-- a name without an interval changes none
ranges_kept : (s : Scope) (n : Name) (b : Binding) → range_of_binding (Some b) ≡ only (pos 0) → not (is_in s n) ≡ true → ranges_in (put s n (Some b)) ≡ ranges_in s
ranges_kept s n b e h = ranges_put s n b ∙ ap (put (ranges_in s) n) (e ∙ sym (new_range s n h)) ∙ put_self (ranges_in s) n

module _ (s : Scope) (rho : Ranges) (e : ranges_in s ≡ rho) where
  ranges_with : (n : Name) (b : Binding) (r : Range) → range_of_binding (Some b) ≡ r → ranges_in (put s n (Some b)) ≡ put rho n r
  ranges_with n b r h = ranges_put s n b ∙ (λ i. put (e i) n (h i))

  constant_with : (n : Name) (z : ℤ) (ty : Scalar) → ranges_in (put s n (Some (binding_of_constant z ty))) ≡ ranges_after_constant n z ty rho
  constant_with n z (scalar.Int element) = ranges_with n (binding_of_constant z (scalar.Int element)) (only (pos 0)) refl
  constant_with n z scalar.Index = ranges_with n (binding_of_constant z scalar.Index) (only z) refl

  -- ---- what the rule on intervals says of the ranges

  access_within : (at : Access) → access_bounded s at ≡ true → BoundedAccess rho at
  unfolding access_bounded
  access_within at h =
      (λ i. list_all (has_interval (take at.map.dims (map (sym e i) at.operands)) (drop at.map.dims (map (sym e i) at.operands))) at.map.results)
      ∙ (and_parts (list_all (is_small_dimension s) (take at.map.dims at.operands)) (list_all (has_interval (take at.map.dims (map (ranges_in s) at.operands)) (drop at.map.dims (map (ranges_in s) at.operands))) at.map.results) h).1

  set_within : (set : Set) (names : List Name) → set_bounded s set names ≡ true → BoundedSet rho set names
  unfolding set_bounded
  set_within set names h =
      (λ i. list_all (row_bounded (take set.dims (map (sym e i) names)) (drop set.dims (map (sym e i) names))) set.rows)
      ∙ (and_parts (list_all (is_small_dimension s) (take set.dims names)) (list_all (row_bounded (take set.dims (map (ranges_in s) names)) (drop set.dims (map (ranges_in s) names))) set.rows) h).1

  bound_within : (b : Bound) → bound_bounded s b ≡ true → BoundedBound rho b
  bound_within (bound.Int z) h = h
  bound_within (bound.Value n) h = tt
  bound_within (bound.Map at) h = access_within at h

  plain_within : (p : Plain) → maps_bounded s p ≡ true → BoundedPlain rho p
  plain_within p h = Every-passed (access_bounded s) (BoundedAccess rho) access_within (maps_of p) h

-- ---- the ranges along the text

effect_ranges : (x : Effect) (a : Around) (rho : Ranges) → ranges_in a.scope ≡ rho → is_new_result a.scope (result_of_effect x) ≡ true → ranges_in (behind_effect x a).scope ≡ ranges_effect x rho
effect_ranges (NewIndex r pick at) a rho e h = ranges_with a.scope rho e r (Variable (picked_range pick (ranges_at (ranges_in a.scope) at))) (picked_range pick (ranges_at rho at)) (ap (λ f. picked_range pick (ranges_at f at)) e)
effect_ranges (NewConstant r z ty) a rho e h = constant_with a.scope rho e r z ty
effect_ranges (NewData r ty) a rho e h = ranges_with a.scope rho e r _ (only (pos 0)) refl
effect_ranges (NewMemref r ty) a rho e h = ranges_kept a.scope r _ refl h ∙ e
effect_ranges x a rho e h = e

pub bounded_of_told : (n : Nest) (a : Around) (t : Totals) (rho : Ranges) → ranges_in a.scope ≡ rho → told n a ≡ Passed t → BoundedNest n rho
unfolding told
bounded_of_told Nothing a t rho e h = tt
bounded_of_told (Loop line v l u s body rest) a t rho e h =
    let j = judged_passed line (rule_of_loop (counted a) v l u s) _ t h in
    let p = then_passed (told body (in_loop v l u (counted a))) (λ t. told rest (with_totals t a)) t j.1 in
    let b = and_parts (bound_bounded a.scope l) (bound_bounded a.scope u) (loop_holds (counted a) v l u s j.0).bounded in
    let inner = ranges_with a.scope rho e v (Variable (turn_range (first_turn (ranges_in a.scope) l) (last_end (ranges_in a.scope) u))) (turn_range (first_turn rho l) (last_end rho u)) (λ i. turn_range (first_turn (e i) l) (last_end (e i) u)) in
    (bound_within a.scope rho e l b.0, bound_within a.scope rho e u b.1, bounded_of_told body (in_loop v l u (counted a)) p.0 (put rho v (turn_range (first_turn rho l) (last_end rho u))) inner p.1, bounded_of_told rest (with_totals p.0 a) t rho e p.2)
bounded_of_told (Branch line set names first has other rest) a t rho e h =
    let j = judged_passed line (rule_of_condition (counted a) set names) _ t h in
    let p = then_passed (told first (in_condition (counted a))) (λ t. then_told (told other (in_condition (with_totals t a))) (λ u. told rest (with_totals u a))) t j.1 in
    let q = then_passed (told other (in_condition (with_totals p.0 a))) (λ u. told rest (with_totals u a)) t p.2 in
    (set_within a.scope rho e set names (condition_holds (counted a) set names j.0).bounded, bounded_of_told first (in_condition (counted a)) p.0 rho e p.1, bounded_of_told other (in_condition (with_totals p.0 a)) q.0 rho e q.1, bounded_of_told rest (with_totals q.0 a) t rho e q.2)
bounded_of_told (Does line p rest) a t rho e h =
    let j = judged_passed line (rule_of_plain (counted a) p rest) _ t h in
    let holds = plain_holds (counted a) p rest j.0 in
    (plain_within a.scope rho e p holds.bounded, bounded_of_told rest (behind_plain p (counted a)) t (ranges_after p rho) (effect_ranges (effect_of p) (counted a) rho e holds.new_name) j.1)

-- ---- the arguments

argument_new : (a : Around) (n : Name) (k : ArgKind) → rule_of_argument a n k ≡ None → not (is_in a.scope n) ≡ true
unfolding rule_of_argument
argument_new a n k h = (rule_held 2 (not (is_in a.scope n)) _ h).0

argument_ranges : (arg : Arg) (k : ArgKind) (a : Around) (rho : Ranges) → ranges_in a.scope ≡ rho → not (is_in a.scope arg.name) ≡ true
    → ranges_in (behind_argument arg.name k a).scope ≡ arg_ranges rho (record { name = arg.name; kind = k; line = arg.line })
argument_ranges arg (Memref ty) a rho e h = ranges_kept a.scope arg.name _ refl h ∙ e
argument_ranges arg (Index range) a rho e h = ranges_with a.scope rho e arg.name _ _ refl

arguments_bounded : (args : List Arg) (body : Nest) (a : Around) (t : Totals) (rho : Ranges) → ranges_in a.scope ≡ rho → told_arguments args (told body) a ≡ Passed t → BoundedNest body (fold arg_ranges rho args)
unfolding told_arguments
arguments_bounded [] body a t rho e h = bounded_of_told body a t rho e h
arguments_bounded (arg ∷ args) body a t rho e h =
    let j = judged_passed arg.line (rule_of_argument a arg.name arg.kind) _ t h in
    arguments_bounded args body (behind_argument arg.name arg.kind a) t (arg_ranges rho arg) (argument_ranges arg arg.kind a rho e (argument_new a arg.name arg.kind j.0)) j.1

nothing_ranges : ranges_in outside.scope ≡ (λ n. only (pos 0))
unfolding ranges_in
nothing_ranges = refl

pub valid_bounded : (m : Module) → IsValid m → BoundedNest (nest m.body) (start_ranges m.args)
unfolding first_broken told_module
valid_bounded m h =
    let p = passed_of (told_arguments m.args (told (nest m.body)) outside) h in
    arguments_bounded m.args (nest m.body) outside p.0 (λ n. only (pos 0)) nothing_ranges p.1
