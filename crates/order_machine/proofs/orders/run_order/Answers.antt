use Rattle.std.proofs.Common.{◌∙◌, [], ap, subst, rules, w64, SFits}
use Rattle.std.proofs.lemmas.Int.{to_z-of_z}
use Rattle.affine_ast.specs.declared.module.Module.{Module}
use Rattle.affine_ast.specs.Nest.{nest}
use Rattle.order_machine.specs.Orders.{setting}
use Rattle.order_machine.specs.Standing.{IsAt}
use Rattle.order_machine.proofs.Chosen.{runs_order, fits_at_end}
use Rattle.order_machine.proofs.orders.run_order.Goals as goal

pub new-requires-clause-arguments : goal.new-requires-clause-arguments
new-requires-clause-arguments c = c.in_ok-program.ensures.arguments ∙ ap (λ (m : Module). m.args) c.module-valid.ensures.value

pub new-requires-clause-body : goal.new-requires-clause-body
new-requires-clause-body c = c.in_ok-program.ensures.body ∙ ap (λ (m : Module). nest m.body) c.module-valid.ensures.value

pub run_by-ran-requires : goal.run_by-ran-requires
run_by-ran-requires c = (_, c.in_ok-machine.ensures)

pub into_image-requires : goal.into_image-requires
into_image-requires c = let r = c.run_by-ran.ensures _ c.in_ok-machine.ensures in (_, r.steps, r.at)

pub returns-clause-runs : goal.returns-clause-runs
returns-clause-runs c =
    let fits : SFits w64 c.args.filler = search rules in
    let s = setting c.args.module.now.inner c.args.image c.args.filler c.args.capacity c.args.engines in
    let at = subst (λ f. IsAt (setting c.args.module.now.inner c.args.image f c.args.capacity c.args.engines) [] c.in_ok-machine.machine) (to_z-of_z w64 c.args.filler fits) c.in_ok-machine.ensures in
    let r = c.run_by-ran.ensures s at in
    runs_order s c.args.pick _ _ _ r _ _ (c.into_image.ensures s r.steps r.at) (c.steps-steps.ensures s r.steps r.at)

pub returns-clause-fits : goal.returns-clause-fits
returns-clause-fits c = λ e.
    (let fits : SFits w64 c.args.filler = search rules in
    let s = setting c.args.module.now.inner c.args.image c.args.filler c.args.capacity c.args.engines in
    let at = subst (λ f. IsAt (setting c.args.module.now.inner c.args.image f c.args.capacity c.args.engines) [] c.in_ok-machine.machine) (to_z-of_z w64 c.args.filler fits) c.in_ok-machine.ensures in
    let r = c.run_by-ran.ensures s at in
    fits_at_end s r.steps _ _ r.at r.verdict_is _ (c.into_image.ensures s r.steps r.at) e)
