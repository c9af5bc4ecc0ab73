-- The parameters of each stage are numbered as the grammar has it.
use Rattle.std.proofs.Common.{◌≡◌, true, [], sym, ap, ◌∙◌, subst}
use Rattle.std.specs.Prelude.{nat_le}
use Rattle.std.proofs.lemmas.Bool.{and_parts}
use Rattle.affine_ast.specs.declared.module.Module.{Module}
use Rattle.affine_ast.specs.Nest.{nest}
use Rattle.affine_ast.specs.Validity.{IsValid}
use Rattle.nest_domain.specs.declared.plan.Options.{Options}
use Rattle.made_names.specs.Made.{made_by}
use Rattle.lined_modules.proofs.Texts.{lined_twice}
use Rattle.lined_modules.proofs.Law.{all_are_lined, lines_have_no_part}
use Rattle.numbered_names.specs.Numbers.{value_names, numbered_name}
use Rattle.numbered_names.proofs.Apart.{is_one_of, keeps_apart}
use Rattle.placement_texts.specs.Fold.{there, AllFit}
use Rattle.placement_texts.specs.Own.{OwnNest}
use Rattle.placement_texts.specs.Renamed.{named}
use Rattle.placement_texts.specs.Valid.{OwnArguments}
use Rattle.plan_laws.specs.Limits as limits
use Rattle.plan_laws.specs.Limits.{keeps_limits}
use Rattle.plan_laws.specs.Sites.{lined}
use Rattle.plan_laws.specs.Plan.{plan_steps, planned_text}
use Rattle.plan_theorem.specs.Law.{of_text, IsWritten}
use Rattle.plan_theorem.proofs.Theorem.{plans_are_plans, plan_runs}
use Rattle.printed_texts.specs.Writable.{MayBeWritten}
use Rattle.normal_texts.proofs.Texts.{normal_is_the_same}
use Rattle.staged_plans.proofs.Theorem.{all_fit}
use Rattle.stage_laws.proofs.Law.{stage_runs}
use Rattle.writable_modules.proofs.Kept.{Limited, limited}
use Rattle.stage_numbers.specs.Numbered.{AreNumbered, StageIsNumbered}
use Rattle.stage_texts.proofs.Law.{few_names, own_lined, stage_names}
use Rattle.stage_texts.proofs.Keeps.{stage_keeps}
use Rattle.stage_numbers.proofs.Given.{Ready, statements_ready, lined_ready, all_ready}
use Rattle.stage_numbers.proofs.Placed.{OrderedText, text_numbered, one_written, own_of, body_ordered}

-- the text with the placements of the plan
planned_ready : (o : Options) (m : Module) → IsValid m → IsWritten m → MayBeWritten m → Ready (planned_text o m)
planned_ready o m valid text w =
    let line = all_are_lined m in
    let same = lines_have_no_part m line.module_ line.is in
    let lines : lined (nest line.module_.body) ≡ nest line.module_.body = ap lined line.is.body ∙ lined_twice (nest m.body) ∙ sym line.is.body in
    let written : IsWritten line.module_ = record { names = subst (OwnNest of_text) (sym line.is.body) (own_lined of_text (nest m.body) text.names); arguments = subst (OwnArguments of_text) (sym line.is.arguments) text.arguments } in
    let plan = plans_are_plans o line.module_ (same.valid valid) written lines [] in
    let fit = subst (AllFit made_by 0) (same.steps o) (all_fit line.module_ (same.valid valid) [] o.dma made_by 0 (plan_steps o line.module_) plan.own_text plan.own_arguments plan.named plan.planned) in
    all_ready made_by 0 (plan_steps o m) (lined (nest m.body)) fit (subst (OwnNest (there made_by 0)) line.is.body plan.own_text)
    (lined_ready (nest m.body) (subst Ready (sym w.body) (statements_ready 39 w.line w.stmts w.fit)))

limited_by : (q : Module) → keeps_limits q.args (nest q.body) ≡ true → Limited (nest q.body)
unfolding keeps_limits
limited_by q h = let two = and_parts (nat_le (limits.operands_in (nest q.body)) 1048576) _ h in limited (nest q.body) _ two.1

pub stage_numbered : StageIsNumbered
stage_numbered o m q valid v13 text w is =
    let p = plan_runs o m is.placed valid v13 text is.is_placed in
    let ordered : Module = record is.ordered { name = m.name } in
    let n = normal_is_the_same is.placed ordered p.valid (record { arguments = is.is_ordered.arguments; body = is.is_ordered.body }) in
    let k = is.is_numbered.underscore_count in
    let change = numbered_name k (value_names ordered) in
    let own = is_one_of (value_names ordered) in
    let other = is_one_of (value_names q) in
    let apart = keeps_apart k (value_names ordered) is.is_numbered.prefix_is (few_names ordered n.valid) in
    let names = stage_names o m q valid v13 text w is in
    let in_order : OrderedText (nest is.ordered.body) = subst OrderedText (sym is.is_ordered.body) (body_ordered is.placed p.valid (subst Ready (sym is.is_placed.body) (planned_ready o m valid text w))) in
    let body : nest q.body ≡ named change (nest is.ordered.body) = is.is_numbered.body in
    subst AreNumbered (sym body)
    (text_numbered change own other apart (λ x h. one_written (value_names q) x names h) (nest is.ordered.body) in_order (own_of ordered n.valid)
    (subst (OwnNest other) body (own_of q (stage_runs o m q valid v13 text is).valid)) (subst Limited body (limited_by q (stage_keeps o m q valid v13 text w is))))
