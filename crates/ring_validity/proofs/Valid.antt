-- A well-formed text that keeps to the rule on intervals and to the limits breaks no rule.
use Rattle.std.proofs.Common.{◌≡◌, ℕ, List, [], ◌∷◌, refl, sym, ap, ◌∙◌, subst, Bool, true, false}
use Rattle.std.specs.Prelude.{◌||◌, Option, None}
use Rattle.affine_ast.specs.declared.module.Arg.{Arg}
use Rattle.affine_ast.specs.declared.module.Module.{Module}
use Rattle.affine_ast.specs.Nest.{Nest, nest}
use Rattle.affine_ast.specs.Scope.{Scope, Totals, Around}
use Rattle.affine_ast.specs.Validity.{Told, Broken, Passed, told, behind_argument, told_arguments, told_module, outside, broken_of, first_broken, IsValid}
use Rattle.valid_laws.proofs.SafeStart.{behind_arguments}
use Rattle.placement_texts.specs.Tests.{is_tested, BreaksOnlyTested}
use Rattle.placement_texts.specs.Valid.{body_scope}
use Rattle.placement_texts.proofs.StagedValid.{arguments_told, scope_is}
use Rattle.placement_regions.proofs.Theorem.{opens}
use Rattle.plan_laws.specs.Limits.{keeps_limits, keeps_intervals}
use Rattle.plan_theorem.proofs.Tests.{is_limit, Met, limits_met, is_intervals, Bounded, intervals_met}
use Rattle.ring_validity.specs.Wells.{kinds, WellFormed}
use Rattle.ring_validity.specs.Law.{WellIsValid}
use Rattle.ring_validity.proofs.Told.{well_tested}

none_left : (x : Told) (c : Totals) → BreaksOnlyTested x → Bounded x → Met x c → broken_of x ≡ None
none_left (Passed t) c h b m = refl
none_left (Broken line n) c h b m =
    let z : true ≡ false = sym h ∙ (λ i. b i || m i) in absurd (cc)

released_is : (args : List Arg) (a : Around) → (behind_arguments args a).released ≡ a.released
released_is [] a = refl
released_is (arg ∷ args) a = released_is args (behind_argument arg.name arg.kind a)

-- of a text behind the arguments
pub none_broken : (m : Module) (n : Nest) → WellFormed n (kinds (body_scope m)) (λ n. false) → keeps_intervals m.args n ≡ true → keeps_limits m.args n ≡ true → broken_of (told n (behind_arguments m.args outside)) ≡ None
none_broken m n well intervals limits =
    let a = behind_arguments m.args outside in
    let met = limits_met m.args n limits in
    none_left (told n a) met.0.totals
    (well_tested n a
    (subst (λ d. WellFormed n (kinds a.scope) d) (sym (released_is m.args outside))
    (subst (λ s. WellFormed n (kinds s) (λ n. false)) (sym (scope_is m.args outside)) well)))
    (intervals_met m.args n intervals) met.1

pub well_is_valid : WellIsValid
unfolding first_broken told_module
well_is_valid m q valid args well intervals limits =
    let o = opens m valid in
    let r = arguments_told m.args (nest m.body) (nest q.body) outside o.totals o.told_all in
    ap broken_of ((λ i. told_arguments (args i) (told (nest q.body)) outside) ∙ r.1) ∙ none_broken m (nest q.body) well intervals limits
