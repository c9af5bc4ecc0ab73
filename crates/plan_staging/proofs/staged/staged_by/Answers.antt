use Rattle.std.proofs.Common.{rules, ◌≤◌, length, sym, ap, ◌∙◌, subst}
use Rattle.affine_ast.specs.Nest.{nest}
use Rattle.placement_stage.specs.All.{staged_with, AllMayBeStaged, AreSteps}
use Rattle.plan_staging.specs.Decided.{placements_of}
use Rattle.plan_staging.proofs.Staging.{few_all, may_stage, is_valid}
use Rattle.plan_staging.proofs.staged.staged_by.Goals as goal

pub placed_all-requires-clause-few : goal.placed_all-requires-clause-few
placed_all-requires-clause-few c =
    subst (λ ds. length ds ≤ 65536) (sym c.deref.ensures.value) (few_all c.args.dma c.args.module.now.inner c.args.plan.now.decisions.items c.args.module.now.valid c.requires.plan)

pub stage_all-requires : goal.stage_all-requires
stage_all-requires c =
    let m = c.args.module.now.inner in
    let xs = c.in_ok-placed.placed.items in
    let n = nest c.in_ok-text.text in
    let steps = subst (λ ds. AreSteps xs (placements_of c.args.dma m.args (nest m.body) ds)) c.deref.ensures.value c.in_ok-placed.ensures.placed in
    subst (λ ys. AllMayBeStaged ys n) (sym c.deref-2.ensures.value)
    (may_stage c.args.dma m c.args.plan.now.decisions.items xs n (search rules) c.args.module.now.valid c.requires.plan steps c.in_ok-placed.ensures.written)

pub seal-requires : goal.seal-requires
seal-requires c =
    let m = c.args.module.now.inner in
    let xs = c.in_ok-placed.placed.items in
    let n = nest c.in_ok-text.text in
    let steps = subst (λ ds. AreSteps xs (placements_of c.args.dma m.args (nest m.body) ds)) c.deref.ensures.value c.in_ok-placed.ensures.placed in
    is_valid c.args.dma m (record { name = c.in_ok-copy.field-0; args = c.in_ok-copied_args.field-0; body = c.in_ok-body.body }) c.args.plan.now.decisions.items xs n (search rules)
    c.args.module.now.valid c.requires.plain c.requires.written c.requires.plan steps (c.in_ok-body.ensures ∙ ap (λ ys. staged_with ys n) c.deref-2.ensures.value) (search rules)
