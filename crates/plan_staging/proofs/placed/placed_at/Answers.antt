use Rattle.std.proofs.Common.{rules, ◌∙◌}
use Rattle.plan_staging.proofs.Placing.{may_be_placed}
use Rattle.plan_staging.proofs.placed.placed_at.Goals as goal

pub placement-requires-clause-region : goal.placement-requires-clause-region
placement-requires-clause-region c =
    may_be_placed c.args.module.now.inner c.args.arg.now c.args.region.now c.deref-2.result.now c.args.copied.dma c.args.at.now.steps c.in-Memref.ty c.deref.result.now
    c.args.module.now.valid c.requires.found (search rules) (c.deref.ensures.value ∙ c.in_ok-names.ensures) (search rules)
