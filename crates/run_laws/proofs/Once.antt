-- The names of a valid module are bound once.
use Rattle.std.proofs.Common.{◌≡◌, Bool, true, false, List, [], ◌∷◌, refl, sym, ap, ◌∙◌}
use Rattle.std.specs.Prelude.{not, Option, Some, None, is_some}
use Rattle.affine_ast.specs.declared.module.Arg.{Arg}
use Rattle.affine_ast.specs.declared.name.Name.{Name}
use Rattle.affine_ast.specs.Names.{same_name, put}
use Rattle.affine_ast.proofs.Names.{put-same, put-other}
use Rattle.affine_ast.specs.Nest.{Plain, Nest, Nothing, Loop, Branch, Does, nest}
use Rattle.affine_ast.specs.Parts.{Effect, NewIndex, NewConstant, NewData, NewMemref, effect_of, result_of_effect, result_of}
use Rattle.affine_ast.specs.Rules.{is_in, is_new_result}
use Rattle.affine_ast.specs.Scope.{Binding, Scope, Totals, Around, counted, in_loop, in_condition, with_totals, behind_effect, behind_plain}
use Rattle.affine_ast.specs.Validity.{Passed, then_told, told, rule_of_plain, rule_of_loop, rule_of_condition, behind_argument, outside}
use Rattle.direct_meaning.specs.Actions.{after_plain, behind}
use Rattle.direct_meaning.specs.Memory.{start_env}
use Rattle.direct_meaning.specs.Static.{Env, knows}
use Rattle.valid_laws.specs.Safe.{SafeNest}
use Rattle.valid_laws.proofs.Passing.{Holds, judged_passed, then_passed, plain_holds, loop_holds}
use Rattle.valid_laws.proofs.SafeHolds.{plain_stands, turn_stands}
use Rattle.valid_laws.proofs.SafeStart.{ArgumentsHold, behind_arguments, start_around, start_stands, valid_safe}
use Rattle.valid_laws.proofs.Scoped.{ScopeStands, new_name}
use Rattle.valid_laws.proofs.Small.{not_false, small_between}
use Rattle.run_laws.specs.BindsOnce.{IsFree, BindsFree, binds, bound_with, bound_after, PlainBindsOnce, BindsOnce, ArgumentsBindOnce, bound_by, ValidBindsOnce}

-- the bound names are those in scope
abbrev BoundIs : Scope → (Name → Bool) → Type 0
BoundIs s bound = (n : Name) → bound n ≡ is_some (s n)

bound_put : (s : Scope) (bound : Name → Bool) (r : Name) (b : Binding) → BoundIs s bound → BoundIs (put s r (Some b)) (binds r bound)
bound_put s bound r b h n = by (same_name r n) refl
  where
    by : (t : Bool) → same_name r n ≡ t → binds r bound n ≡ is_some (put s r (Some b) n)
    by true t = put-same bound r true n t ∙ ap is_some (sym (put-same s r (Some b) n t))
    by false t = put-other bound r true n t ∙ h n ∙ ap is_some (sym (put-other s r (Some b) n t))

new_bound : (s : Scope) (bound : Name → Bool) (n : Name) → BoundIs s bound → not (is_in s n) ≡ true → bound n ≡ false
unfolding is_in
new_bound s bound n h new = h n ∙ not_false (is_some (s n)) new

free : (s : Scope) (e : Env) (bound : Name → Bool) (n : Name) → ScopeStands s e → BoundIs s bound → not (is_in s n) ≡ true → IsFree bound e n
free s e bound n h k new = let two = new_name s e n h new in record { not_bound = new_bound s bound n k new; no_number = two.0; no_memref = two.1 }

result_once : (s : Scope) (e : Env) (bound : Name → Bool) (r : Option Name) → ScopeStands s e → BoundIs s bound → is_new_result s r ≡ true → BindsFree bound e r
result_once s e bound (Some r) h k new = free s e bound r h k new
result_once s e bound None h k new = tt

plain_once : (a : Around) (p : Plain) (rest : Nest) (e : Env) (bound : Name → Bool) → ScopeStands a.scope e → BoundIs a.scope bound → Holds (counted a) p rest → PlainBindsOnce bound e p
plain_once a p rest e bound h k v = result_once a.scope e bound (result_of p) h k v.new_name

bound_behind : (a : Around) (x : Effect) (bound : Name → Bool) → BoundIs a.scope bound → BoundIs (behind_effect x a).scope (bound_with (result_of_effect x) bound)
bound_behind a (NewIndex r pick at) bound k = bound_put a.scope bound r _ k
bound_behind a (NewConstant r z ty) bound k = bound_put a.scope bound r _ k
bound_behind a (NewData r ty) bound k = bound_put a.scope bound r _ k
bound_behind a (NewMemref r ty) bound k = bound_put a.scope bound r _ k
bound_behind a x bound k = k

once : (n : Nest) (a : Around) (t : Totals) (e : Env) (bound : Name → Bool) → ScopeStands a.scope e → BoundIs a.scope bound → SafeNest n e → told n a ≡ Passed t → BindsOnce n bound e
unfolding told
once Nothing a t e bound h b v k = tt
once (Loop line x l u s body rest) a t e bound h b v k =
    let j = judged_passed line (rule_of_loop (counted a) x l u s) _ t k in
    let p = then_passed (told body (in_loop x l u (counted a))) (λ t. told rest (with_totals t a)) t j.1 in
    let new = (loop_holds (counted a) x l u s j.0).new_name in (
      free a.scope e bound x h b new,
      λ z from to. once body (in_loop x l u (counted a)) p.0 (knows e x z) (binds x bound) (turn_stands a.scope e x _ z h new (small_between _ _ z v.1.lower_small v.1.upper_small from to)) (bound_put a.scope bound x _ b) (v.2 z from to) p.1,
      once rest (with_totals p.0 a) t (behind body e) bound h b v.3 p.2,
    )
once (Branch line set names first has other rest) a t e bound h b v k =
    let j = judged_passed line (rule_of_condition (counted a) set names) _ t k in
    let p = then_passed (told first (in_condition (counted a))) (λ t. then_told (told other (in_condition (with_totals t a))) (λ u. told rest (with_totals u a))) t j.1 in
    let q = then_passed (told other (in_condition (with_totals p.0 a))) (λ u. told rest (with_totals u a)) t p.2 in (
      once first (in_condition (counted a)) p.0 e bound h b v.2 p.1,
      once other (in_condition (with_totals p.0 a)) q.0 (behind first e) bound h b v.3 q.1,
      once rest (with_totals q.0 a) t (behind other (behind first e)) bound h b v.4 q.2,
    )
once (Does line p rest) a t e bound h b v k =
    let j = judged_passed line (rule_of_plain (counted a) p rest) _ t k in
    let holds = plain_holds (counted a) p rest j.0 in
    (plain_once a p rest e bound h b holds, once rest (behind_plain p (counted a)) t (after_plain p e) (bound_after p bound) (plain_stands a p rest e h holds v.1) (bound_behind (counted a) (effect_of p) bound b) v.2 j.1)

-- ---- the arguments

arguments_once : (args : List Arg) (a : Around) (bound : Name → Bool) → BoundIs a.scope bound → ArgumentsHold args a → ArgumentsBindOnce args bound × BoundIs (behind_arguments args a).scope (bound_by args bound)
arguments_once [] a bound b h = (tt, b)
arguments_once (arg ∷ args) a bound b h =
    let r = arguments_once args (behind_argument arg.name arg.kind a) (binds arg.name bound) (bound_put a.scope bound arg.name _ b) h.1 in
    ((new_bound a.scope bound arg.name b h.0.new_name, r.0), r.1)

pub binds_once : ValidBindsOnce
binds_once m valid memory fits =
    let s = start_stands m valid memory fits in
    let args = arguments_once m.args outside (λ n. false) (λ n. refl) s.arguments in
    record {
      arguments = args.0;
      body = once (nest m.body) (start_around m) s.totals (start_env m.args memory.symbols) (bound_by m.args (λ n. false)) s.stands args.1 (valid_safe m valid memory fits) s.passed;
    }
