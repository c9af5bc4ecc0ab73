-- What holds of every plan.
use Rattle.std.specs.Prelude.{◌≡◌, ◌≤◌, true, false, List, Ok}
use Rattle.affine_ast.specs.declared.module.Arg.{Arg}
use Rattle.affine_ast.specs.declared.module.Module.{Module}
use Rattle.affine_ast.specs.declared.name.Name.{Name}
use Rattle.affine_ast.specs.declared.types.MemrefType.{MemrefType}
use Rattle.affine_ast.specs.Nest.{Nest, nest}
use Rattle.nest_domain.specs.declared.plan.Cause.TheVariants as cause
use Rattle.nest_domain.specs.declared.plan.Options.{Options}
use Rattle.nest_domain.specs.Boxes as region
use Rattle.placement_texts.specs.Fold.{Step}
use Rattle.placement_texts.specs.Spots.{Spot, IsLoop, stage_one}
use Rattle.peak_laws.specs.Peak.{peak_of, peak}
use Rattle.plan_laws.specs.Limits.{keeps_limits, keeps_intervals}
use Rattle.plan_laws.specs.Sites.{Holds, loops_round, lined}
use Rattle.plan_laws.specs.Plan.{Site, Unstaged, times, accesses_in, region_at, hoisted, planned_text, tested_in}

-- where the module keeps to the rule on intervals, so does the text with the placements; where the capacity holds the module's own
-- peak, it holds that of this text; and where the module keeps to the limits, so does this text
pub record KeepsWithin (o : Options) (m : Module) : Type 0 where
  pub intervals : keeps_intervals m.args (lined (nest m.body)) ≡ true → keeps_intervals m.args (planned_text o m) ≡ true
  pub capacity : peak m ≤ o.capacity → peak_of (planned_text o m) 0 ≤ o.capacity
  pub limits : keeps_limits m.args (lined (nest m.body)) ≡ true → keeps_limits m.args (planned_text o m) ≡ true

abbrev pub PlansKeepWithin : Type 0
PlansKeepWithin = (o : Options) (m : Module) → KeepsWithin o m

-- a placement is refused for its size only where the capacity holds the text that has it
abbrev pub SizeComesSecond : Type 0
SizeComesSecond = (o : Options) (args : List Arg) (n : Nest) (x : Step) (ds : List region.Dimension) (text : Nest)
    → tested_in o args n x ds text ≡ Unstaged cause.Size
    → (peak_of (stage_one x.placement x.spot text) 0 ≤ o.capacity) × (keeps_limits args (stage_one x.placement x.spot text) ≡ false)

-- where a memref of a block may be staged: at the block or a loop round it, which has no accesses of the memref but the block's; the
-- region is that of the loop there
pub record IsSited (o : Options) (args : List Arg) (n : Nest) (m : Name) (ty : MemrefType) (block : Spot) (x : Site) : Type 0 where
  pub loop : IsLoop x.at n
  pub holds : Holds x.at block
  pub accesses : times m (accesses_in o args n x.at) ≡ times m (accesses_in o args n block)
  pub region : region_at o args n m ty x.at ≡ Ok x.region

-- so it is hoisted, from a block at which it has a region
abbrev pub PlacementsAreSited : Type 0
PlacementsAreSited = (o : Options) (args : List Arg) (n : Nest) (m : Name) (ty : MemrefType) (s : Spot) (ds : List region.Dimension)
    → IsLoop s n → region_at o args n m ty s ≡ Ok ds
    → IsSited o args n m ty s (hoisted o args n m ty (times m (accesses_in o args n s)) (loops_round s n) (record { at = s; region = ds }))
