-- The same of the placement that a plan makes of the box: its names are made, so they are none of a text's.
use Rattle.std.specs.Prelude.{◌≡◌, ℕ, List, Some, Ok}
use Rattle.affine_ast.specs.declared.module.Module.{Module}
use Rattle.affine_ast.specs.declared.name.Name.{Name}
use Rattle.affine_ast.specs.declared.types.MemrefType.{MemrefType}
use Rattle.affine_ast.specs.Nest.{nest}
use Rattle.affine_ast.specs.Validity.{IsValid}
use Rattle.nest_domain.specs.declared.plan.Options.{Options}
use Rattle.nest_domain.specs.Boxes as region
use Rattle.access_region.specs.Places.{kept_where}
use Rattle.placement_texts.specs.Spots.{Spot, IsLoop, staged_at}
use Rattle.plan_laws.specs.Limits.{keeps_intervals}
use Rattle.plan_laws.specs.Plan.{type_of, region_at, placement_at}
use Rattle.plan_theorem.specs.Law.{IsWritten}
use Rattle.interval_tests.specs.Law.{box_there}

-- in a valid module whose names are a text's, at each loop and of each memref argument: what a plan takes for its region is the box
-- where the module with the plan's placement of it alone keeps to the rule, and there is none, for a coefficient, where it doesn't
abbrev pub PlanTestIsRule : Type 0
PlanTestIsRule = (o : Options) (m : Module) → IsValid m → IsWritten m → (x : Name) (ty : MemrefType) → type_of m.args x ≡ Some ty → (s : Spot) → IsLoop s (nest m.body)
    → (ds : List region.Dimension) → box_there m.args (nest m.body) x s ty.sizes o.dma ≡ Ok ds → (number : ℕ)
    → region_at o m.args (nest m.body) x ty s ≡ kept_where (keeps_intervals m.args (staged_at (placement_at o m.args (nest m.body) number x ty (record { at = s; region = ds })) s (nest m.body))) ds
