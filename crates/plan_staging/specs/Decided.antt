-- The placements that a plan's decisions say: each of the memref argument that the decision's number names, at the loop of its path, over
-- its region; they are numbered in their order.
use Rattle.std.specs.Prelude.{◌≡◌, ℕ, Bool, List, [], ◌∷◌, ◌++◌, fold, length, slice_get, Option, Some, None, Ok}
use Rattle.affine_ast.specs.declared.module.Arg.{Arg}
use Rattle.affine_ast.specs.declared.module.ArgKind.TheVariants as kind
use Rattle.affine_ast.specs.declared.module.Module.{Module}
use Rattle.affine_ast.specs.declared.name.Name.{Name}
use Rattle.affine_ast.specs.declared.types.MemrefType.{MemrefType}
use Rattle.affine_ast.specs.Nest.{Nest}
use Rattle.made_names.specs.Made.{made_name}
use Rattle.nest_domain.specs.Boxes as region
use Rattle.nest_domain.specs.declared.plan.Decision.{Decision}
use Rattle.nest_domain.specs.declared.plan.Options.{Options}
use Rattle.nest_domain.specs.declared.plan.Outcome.{Outcome}
use Rattle.nest_domain.specs.declared.plan.Outcome.TheVariants as outcome
use Rattle.placement_regions.specs.Sites.{way_to, outer_names, dims_over, region_there}
use Rattle.placement_stage.specs.Places.{spot_of}
use Rattle.placement_texts.specs.Fold.{Step}
use Rattle.placement_texts.specs.Spots.{Spot, IsLoop}
use Rattle.placement_texts.specs.Valid.{HasArgument}
use Rattle.plan_laws.specs.Plan.{type_of_kind, memrefs_before, elements_before, plan}
use Rattle.plan_laws.specs.Sites.{path_of}
use Rattle.staged_plans.specs.Plans.{how_over}

-- the placement of this number, of a memref of this name and type at the loop there
abbrev pub step_of : Bool → List Arg → Nest → ℕ → Name → MemrefType → Spot → List region.Dimension → Bool → Bool → Step
step_of dma args n number name ty s ds reads writes = record {
  placement = record {
    memref = name;
    element = ty.element;
    dims = dims_over (outer_names args (way_to s n)) ds ty.sizes;
    reads = reads;
    writes = writes;
    how = how_over dma (dims_over (outer_names args (way_to s n)) ds ty.sizes);
    name = made_name number;
  };
  spot = s;
  order = memrefs_before args name;
  first = elements_before args name;
}

-- an argument that is no memref has none
abbrev pub of_type : Bool → List Arg → Nest → ℕ → Name → Spot → List region.Dimension → Bool → Bool → Option MemrefType → List Step
of_type dma args n number name s ds reads writes None = []
of_type dma args n number name s ds reads writes (Some ty) = step_of dma args n number name ty s ds reads writes ∷ []

abbrev pub of_argument : Bool → List Arg → Nest → ℕ → Spot → List region.Dimension → Bool → Bool → Option Arg → List Step
of_argument dma args n number s ds reads writes None = []
of_argument dma args n number s ds reads writes (Some arg) = of_type dma args n number arg.name s ds reads writes (type_of_kind arg.kind)

abbrev pub of_outcome : Bool → List Arg → Nest → ℕ → ℕ → Outcome → List Step
of_outcome dma args n number memref (outcome.Left cause) = []
of_outcome dma args n number memref (outcome.Staged at ds reads writes doubling) =
    of_argument dma args n number (spot_of at.steps) ds reads writes (slice_get args memref)

-- with those of one decision more
abbrev pub with_decision : Bool → List Arg → Nest → List Step → Decision → List Step
with_decision dma args n steps d = steps ++ of_outcome dma args n (length steps) d.memref d.outcome

abbrev pub placements_of : Bool → List Arg → Nest → List Decision → List Step
placements_of dma args n ds = fold (with_decision dma args n) [] ds

-- ---- which of them may be made
-- the path of a loop
pub record NamesLoop (n : Nest) (steps : List (ℕ × Bool)) : Type 0 where
  pub spot : Spot
  pub path : steps ≡ path_of spot
  pub loop : IsLoop spot n

-- an argument that is a memref, the path of a loop, and the region of the memref there
pub record IsFound (dma : Bool) (args : List Arg) (n : Nest) (arg : Arg) (steps : List (ℕ × Bool)) (ds : List region.Dimension) : Type 0 where
  pub ty : MemrefType
  pub at : NamesLoop n steps
  pub memref : arg.kind ≡ kind.Memref ty
  pub argument : HasArgument args arg.name (kind.Memref ty)
  pub region : region_there args n arg.name at.spot ty.sizes dma ≡ Ok ds

pub record HasFound (dma : Bool) (args : List Arg) (n : Nest) (memref : ℕ) (steps : List (ℕ × Bool)) (ds : List region.Dimension) : Type 0 where
  pub arg : Arg
  pub is : slice_get args memref ≡ Some arg
  pub found : IsFound dma args n arg steps ds

abbrev pub MayBeMade : Bool → List Arg → Nest → ℕ → Outcome → Type 0
MayBeMade dma args n memref (outcome.Left cause) = Unit {0}
MayBeMade dma args n memref (outcome.Staged at ds reads writes doubling) = HasFound dma args n memref at.steps ds

abbrev pub IsMadeOf : Bool → List Arg → Nest → Decision → Type 0
IsMadeOf dma args n d = MayBeMade dma args n d.memref d.outcome

-- decisions that are the plan of a module, for some options, with or without transfers
pub record IsPlanFor (dma : Bool) (m : Module) (ds : List Decision) : Type 0 where
  pub options : Options
  pub transfers : options.dma ≡ dma
  pub plan : ds ≡ plan options m
