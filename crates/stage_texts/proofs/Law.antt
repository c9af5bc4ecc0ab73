-- What the stage of a module of a text has of a text.
use Rattle.std.proofs.Common.{◌≡◌, ℕ, suc, ◌^◌, ◌<◌, Bool, true, false, List, [], ◌∷◌, ◌++◌, length, length-append, refl, sym, ap, ◌∙◌, subst, arith}
use Rattle.std.specs.Prelude.{if◌then◌else◌}
use Rattle.std.proofs.lemmas.List.{length-map, map-append}
use Rattle.affine_ast.specs.declared.module.Arg.{Arg}
use Rattle.affine_ast.specs.declared.module.Module.{Module}
use Rattle.affine_ast.specs.declared.name.Name.{Name}
use Rattle.affine_ast.specs.Nest.{Nest, Nothing, Loop, Branch, Does, nest}
use Rattle.affine_ast.specs.Validity.{told, told_module, outside, first_broken, IsValid}
use Rattle.nest_domain.specs.declared.plan.Options.{Options}
use Rattle.made_names.specs.Made.{number_from, made_by}
use Rattle.placement_texts.specs.Own.{OwnNames, OwnNest}
use Rattle.placement_texts.specs.Valid.{OwnArguments}
use Rattle.placement_texts.specs.Fold.{Step, staged_all}
use Rattle.staged_plans.specs.Plans.{AllNamed}
use Rattle.plan_laws.specs.Sites.{lined}
use Rattle.plan_laws.specs.Plan.{plan_steps}
use Rattle.lined_modules.proofs.Texts.{lined_twice}
use Rattle.lined_modules.proofs.Law.{all_are_lined, lines_have_no_part}
use Rattle.plan_theorem.specs.Law.{of_text, IsWritten}
use Rattle.plan_theorem.proofs.Theorem.{plans_are_plans, plan_runs}
use Rattle.normal_texts.specs.Texts.{normal_text}
use Rattle.normal_texts.proofs.Texts.{normal_is_the_same}
use Rattle.printed_texts.specs.Writable.{AllWritten}
use Rattle.valid_laws.proofs.Passing.{passed_of}
use Rattle.numbered_names.specs.Numbers.{defined, value_names, numbered_name}
use Rattle.numbered_names.proofs.Arguments.{names_of, behind_arguments}
use Rattle.numbered_names.proofs.Counts.{counts}
use Rattle.writable_modules.proofs.Given.{written_formed}
use Rattle.writable_modules.proofs.Walk.{names_front, arguments_written}
use Rattle.stage_texts.specs.Law.{StageNames}
use Rattle.stage_texts.proofs.Names.{AllFine, all_fine, AllMade, placed_fine, all_numbered, defined_lined, defined_normal, defined_named, args_named}

-- ---- a valid module has fewer names than a number of 64 bits
any : Name → Bool
any n = true

any_names : (ns : List Name) → OwnNames (λ n. true) ns
any_names [] = tt
any_names (n ∷ ns) = (refl, any_names ns)

pub few_names : (m : Module) → IsValid m → length (value_names m) < 2 ^ 64
unfolding first_broken told_module
few_names m valid =
    let passed = passed_of (told_module m) valid in
    let behind = behind_arguments (λ n. true) m.args (told (nest m.body)) outside passed.0 (any_names (names_of m.args)) (λ x h. refl) passed.1 in
    let s = behind.statements in
    let k = counts (nest m.body) behind.around passed.0 behind.told (omega (arith, s)) in
    let long = length-append (names_of m.args) (defined (nest m.body)) in
    let args = length-map m.args (λ (arg : Arg). arg.name) in
    let c = k.count in
    let d = k.few in
    let g = behind.count in
    let b = behind.few (omega arith) in
    omega (arith, long, args, c, d, g, b)

-- ---- the names of a plan's placements are made
made_so : (n : Name) (k : ℕ) → made_by n ≡ suc k → n.made ≡ true
made_so n k h = by n.made refl h
  where
    by : (t : Bool) → n.made ≡ t → (if t then suc (number_from n.text) else 0) ≡ suc k → n.made ≡ true
    by true e h = e
    by false e h = absurd (omega (arith, h))

all_made : (k : ℕ) (xs : List Step) → AllNamed made_by k xs → AllMade xs
all_made k [] h = tt
all_made k (x ∷ xs) h = ((λ i. made_so (x.placement.name i) k (h.0.made i)), all_made (suc k) xs h.1)

pub own_lined : (own : Name → Bool) (n : Nest) → OwnNest own n → OwnNest own (lined n)
own_lined own Nothing h = tt
own_lined own (Loop line v l u s body rest) h = (h.0, h.1, h.2, own_lined own body h.3, own_lined own rest h.4)
own_lined own (Branch line set names first has other rest) h = (h.0, own_lined own first h.1, own_lined own other h.2, own_lined own rest h.3)
own_lined own (Does line q rest) h = (h.0, own_lined own rest h.1)

steps_made : (o : Options) (m : Module) → IsValid m → IsWritten m → AllMade (plan_steps o m)
steps_made o m valid text =
    let line = all_are_lined m in
    let same = lines_have_no_part m line.module_ line.is in
    let lines : lined (nest line.module_.body) ≡ nest line.module_.body = ap lined line.is.body ∙ lined_twice (nest m.body) ∙ sym line.is.body in
    let written : IsWritten line.module_ = record { names = subst (OwnNest of_text) (sym line.is.body) (own_lined of_text (nest m.body) text.names); arguments = subst (OwnArguments of_text) (sym line.is.arguments) text.arguments } in
    subst AllMade (same.steps o) (all_made 0 (plan_steps o line.module_) (plans_are_plans o line.module_ (same.valid valid) written lines []).named)

-- ---- the names of a stage
fine_join : (xs ys : List Name) → AllFine xs → AllFine ys → AllFine (xs ++ ys)
fine_join [] ys h k = k
fine_join (x ∷ xs) ys h k = (h.0, fine_join xs ys h.1 k)

pub stage_names : StageNames
stage_names o m q valid v13 text w is =
    let f = written_formed m w in
    let steps = plan_steps o m in
    let args = is.is_ordered.arguments ∙ is.is_placed.arguments in
    let body = is.is_ordered.body ∙ ap normal_text is.is_placed.body in
    let own : AllFine (defined (lined (nest m.body))) = all_fine _ (subst AllWritten (sym (defined_lined (nest m.body) ∙ ap defined f.body ∙ names_front f.stmts f.line)) f.names) in
    let defines : AllFine (defined (nest is.ordered.body)) = subst AllFine (sym (ap defined body ∙ defined_normal (staged_all steps (lined (nest m.body))))) (placed_fine steps (lined (nest m.body)) (steps_made o m valid text) own) in
    let names : AllFine (names_of is.ordered.args) = all_fine _ (subst (λ args. AllWritten (names_of args)) (sym args) (arguments_written m.args f.args)) in
    let p = plan_runs o m is.placed valid v13 text is.is_placed in
    let ordered : Module = record is.ordered { name = m.name } in
    let n = normal_is_the_same is.placed ordered p.valid (record { arguments = is.is_ordered.arguments; body = is.is_ordered.body }) in
    let k = is.is_numbered.underscore_count in
    let change = numbered_name k (value_names is.ordered) in
    subst AllWritten
    (map-append change (names_of is.ordered.args) (defined (nest is.ordered.body))
    ∙ sym ((λ i. names_of (is.is_numbered.args i) ++ defined (is.is_numbered.body i)) ∙ (λ i. args_named change is.ordered.args i ++ defined_named change (nest is.ordered.body) i)))
    (all_numbered k (value_names is.ordered) (few_names ordered n.valid) (value_names is.ordered) (fine_join (names_of is.ordered.args) (defined (nest is.ordered.body)) names defines))
