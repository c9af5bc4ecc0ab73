-- The plan without its test on intervals, memref by memref.
use Rattle.std.specs.Prelude.{◌≡◌, List, [], ◌∷◌, ◌++◌, fold, Some, Ok}
use Rattle.affine_ast.specs.declared.module.Module.{Module}
use Rattle.affine_ast.specs.declared.name.Name.{Name}
use Rattle.affine_ast.specs.declared.types.MemrefType.{MemrefType}
use Rattle.affine_ast.specs.Nest.{nest}
use Rattle.affine_ast.specs.Validity.{IsValid}
use Rattle.boxes.specs.Every.{Every}
use Rattle.nest_domain.specs.declared.plan.Options.{Options}
use Rattle.nest_domain.specs.Boxes.{Dimension}
use Rattle.placement_texts.specs.Fold.{Step}
use Rattle.placement_texts.specs.Spots.{Spot, IsLoop}
use Rattle.plan_laws.specs.Sites.{loops_round}
use Rattle.plan_laws.specs.Plan.{Site, Asked, Planned, times, type_of, accesses_in, region_at, hoisted, asked, planned}
use Rattle.plan_theorem.specs.Law.{IsWritten}
use Rattle.placed_intervals.specs.Untested.{decided_so, untested}
use Rattle.text_limits.specs.Leaving.{LeavesAlone}

-- of a valid module whose names are a text's, whatever its lines
abbrev pub PlanIsUntested : Type 0
PlanIsUntested = (o : Options) (m : Module) → IsValid m → IsWritten m → planned o m.args (nest m.body) ≡ untested o m.args (nest m.body)

-- what is decided of these memrefs in their blocks, one after the other
abbrev pub decided_of : Options → Module → List Asked → Planned
decided_of o m as_ = fold (decided_so o m.args (nest m.body)) (record { steps = []; decisions = [] }) as_

-- where a memref of a block is staged, from its region there
abbrev pub site_from : Options → Module → Name → MemrefType → Spot → List Dimension → Site
site_from o m x ty s ds =
    hoisted o m.args (nest m.body) x ty (times x (accesses_in o m.args (nest m.body) s)) (loops_round s (nest m.body)) (record { at = s; region = ds })

-- these placements stand at loops of the module, and leave the site of a memref in a block alone
pub record AreAside (o : Options) (m : Module) (x : Name) (s : Spot) (steps : List Step) : Type 0 where
  pub loops : Every (λ y. IsLoop y.spot (nest m.body)) steps
  pub alone : (ty : MemrefType) (ds : List Dimension) → type_of m.args x ≡ Some ty → region_at o m.args (nest m.body) x ty s ≡ Ok ds
      → Every (λ y. LeavesAlone x (site_from o m x ty s ds).at y.placement y.spot) steps

-- so do those of all memrefs before it
abbrev pub PlacementsStandAside : Type 0
PlacementsStandAside = (o : Options) (m : Module) → IsValid m → IsWritten m → (before : List Asked) (a : Asked) (after : List Asked)
    → asked o m.args (nest m.body) ≡ before ++ a ∷ after → AreAside o m a.memref a.at (decided_of o m before).steps
