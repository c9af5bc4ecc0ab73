-- The plan of a module without its test on intervals, which refuses nothing.
use Rattle.std.specs.Prelude.{◌≡◌, ℕ, List, [], length, fold, Option, Some, None, Result, Ok, Err}
use Rattle.affine_ast.specs.declared.module.Arg.{Arg}
use Rattle.affine_ast.specs.declared.module.Module.{Module}
use Rattle.affine_ast.specs.declared.name.Name.{Name}
use Rattle.affine_ast.specs.declared.types.MemrefType.{MemrefType}
use Rattle.affine_ast.specs.Nest.{Nest, nest}
use Rattle.affine_ast.specs.Validity.{IsValid}
use Rattle.nest_domain.specs.declared.plan.Cause.TheVariants as cause
use Rattle.nest_domain.specs.declared.plan.Options.{Options}
use Rattle.nest_domain.specs.Boxes as region
use Rattle.access_region.specs.Faults.{NoRegion}
use Rattle.placement_texts.specs.Fold.{Step}
use Rattle.placement_texts.specs.Spots.{Spot, stage_one}
use Rattle.plan_laws.specs.Sites.{loops_round, lined}
use Rattle.plan_laws.specs.Plan.{Site, Asked, Planned, Settled, Unstaged, cause_of, times, type_of, accesses_in, region_at, hoisted, step_at, text_with, fitted, with_settled, asked, planned}
use Rattle.plan_theorem.specs.Law.{IsWritten}

module _ (o : Options) (args : List Arg) (n : Nest) where
  -- a placement is left for capacity or size alone
  abbrev pub fitted_in : Step → List region.Dimension → Nest → Settled
  fitted_in x ds text = fitted o args n x ds (stage_one x.placement x.spot text)

  abbrev pub fitted_at : List Step → Name → MemrefType → Site → Settled
  fitted_at steps m ty x = fitted_in (step_at o args n (length steps) m ty x) x.region (text_with o args n steps)

  abbrev pub fitted_from : List Step → Name → MemrefType → Spot → Result (List region.Dimension) NoRegion → Settled
  fitted_from steps m ty s (Err e) = Unstaged (cause_of e)
  fitted_from steps m ty s (Ok ds) = fitted_at steps m ty (hoisted o args n m ty (times m (accesses_in o args n s)) (loops_round s n) (record { at = s; region = ds }))

  abbrev pub fitted_for : List Step → Name → Spot → Option MemrefType → Settled
  fitted_for steps m s (Some ty) = fitted_from steps m ty s (region_at o args n m ty s)
  fitted_for steps m s None = Unstaged cause.Region

  abbrev pub decided_so : Planned → Asked → Planned
  decided_so so a = with_settled o args n a so (fitted_for so.steps a.memref a.at (type_of args a.memref))

  unfoldable pub untested : Planned
  untested = fold decided_so (record { steps = []; decisions = [] }) (asked o args n)

-- it is the plan, of each valid module whose names are a text's and whose statements have lines
abbrev pub PlanNeedsNoTest : Type 0
PlanNeedsNoTest = (o : Options) (m : Module) → IsValid m → IsWritten m → lined (nest m.body) ≡ nest m.body → planned o m.args (nest m.body) ≡ untested o m.args (nest m.body)
