-- The decisions of a plan say its placements.
use Rattle.std.specs.Prelude.{◌≡◌}
use Rattle.affine_ast.specs.declared.module.Module.{Module}
use Rattle.affine_ast.specs.Nest.{nest}
use Rattle.nest_domain.specs.declared.plan.Options.{Options}
use Rattle.plan_laws.specs.Plan.{plan, plan_steps}
use Rattle.plan_staging.specs.Decided.{placements_of}

abbrev pub PlansSayPlacements : Type 0
PlansSayPlacements = (o : Options) (m : Module) → placements_of o.dma m.args (nest m.body) (plan o m) ≡ plan_steps o m
