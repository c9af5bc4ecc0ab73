-- What a placement's region gives, each time that a run comes to its loop.
use Rattle.std.specs.Prelude.{◌≡◌, ℕ, ℤ, Bool, List, Some}
use Rattle.affine_ast.specs.declared.image.Image.{Image}
use Rattle.affine_ast.specs.declared.module.Module.{Module}
use Rattle.affine_ast.specs.declared.types.MemrefType.{MemrefType}
use Rattle.affine_ast.specs.Nest.{nest}
use Rattle.affine_ast.specs.Validity.{IsValid}
use Rattle.direct_meaning.specs.Action.{SlowMemref}
use Rattle.direct_meaning.specs.Memory.{Fits, start_env}
use Rattle.placement_texts.specs.Template.{Placement, dim_sizes}
use Rattle.placement_texts.specs.Spots.{Spot, FineAt}
use Rattle.placement_regions.specs.Sites.{IsOfRegion, ExtentsFit}

-- in a valid module, from a memory that fits: each time that the text comes to the loop the memref is known by its name, the box
-- lies in the memref, and the loop's accesses of the memref lie in the box
abbrev pub RegionsAreFine : Type 0
RegionsAreFine = (m : Module) → IsValid m → (memory : Image) → Fits m memory
    → (p : Placement) (ty : MemrefType) (order first : ℕ) (s : Spot) (dma : Bool) → IsOfRegion m.args (nest m.body) p ty s dma
    → (start_env m.args memory.symbols).home p.memref ≡ Some (SlowMemref order first)
    → FineAt p order first s (nest m.body) (start_env m.args memory.symbols)

-- in a valid module the placement's sizes are the memref's, and its extents are between 1 and these
abbrev pub RegionsAreSized : Type 0
RegionsAreSized = (m : Module) → IsValid m → (p : Placement) (ty : MemrefType) (s : Spot) (dma : Bool)
    → IsOfRegion m.args (nest m.body) p ty s dma → (dim_sizes p.dims ≡ ty.sizes) × ExtentsFit p.dims
