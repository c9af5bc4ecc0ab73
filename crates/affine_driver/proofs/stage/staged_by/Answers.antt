use Rattle.std.proofs.Common.{refl}
use Rattle.affine_driver.specs.Output.{planning}
use Rattle.affine_driver.proofs.Originals.{names_as_read, is_plan_for, plan_is}
use Rattle.affine_driver.proofs.stage.staged_by.Goals as goal

pub plan-requires-clause-written : goal.plan-requires-clause-written
plan-requires-clause-written c = names_as_read c.args.verified.now.inner c.requires.text c.requires.plain

pub stage_module-requires-clause-written : goal.stage_module-requires-clause-written
stage_module-requires-clause-written c = names_as_read c.args.verified.now.inner c.requires.text c.requires.plain

pub stage_module-requires-clause-plan : goal.stage_module-requires-clause-plan
stage_module-requires-clause-plan c = is_plan_for c.args.options c.args.verified.now.inner c.planning.result c.in_ok-plan.plan.decisions.items c.planning.ensures c.in_ok-plan.ensures

pub returns-clause-stage : goal.returns-clause-stage
returns-clause-stage c = c.in_ok-staged.ensures (planning c.args.options) refl (plan_is c.args.options c.args.verified.now.inner c.planning.result c.in_ok-plan.plan.decisions.items c.planning.ensures c.in_ok-plan.ensures)
