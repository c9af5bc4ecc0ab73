-- Boxes of a region that a placement may take: their places may be written by a template, and their numbers keep to those of code.
use Rattle.std.specs.Prelude.{◌≡◌, ℕ, ◌^◌, ◌≤◌, ◌<◌, Bool, false, ◌&&◌, List, [], ◌∷◌, length, Ok, All}
use Rattle.constraint_set.specs.Tidy.{all_zero}
use Rattle.affine_ast.specs.declared.module.Arg.{Arg}
use Rattle.affine_ast.specs.declared.module.ArgKind.TheVariants as kind
use Rattle.affine_ast.specs.declared.module.Module.{Module}
use Rattle.affine_ast.specs.declared.name.Name.{Name}
use Rattle.affine_ast.specs.declared.types.MemrefType.{MemrefType}
use Rattle.affine_ast.specs.Nest.{nest}
use Rattle.affine_ast.specs.Sizes.{product}
use Rattle.affine_ast.specs.Validity.{IsValid}
use Rattle.boxes.specs.Boxes as boxes
use Rattle.nest_domain.specs.Boxes.{Dimension}
use Rattle.valid_laws.specs.Safe.{IsSmall}
use Rattle.placement_texts.specs.Spots.{Spot, IsLoop}
use Rattle.placement_texts.specs.Template as template
use Rattle.placement_texts.specs.Valid.{HasArgument}
use Rattle.staging_laws.specs.Law.{flat_spans}
use Rattle.placement_regions.specs.Sites.{way_to, outer_names, dims_over, region_there}
use Rattle.placement_code.specs.Small.{AreWell}

-- a coefficient for each outer variable, and small numbers; the offset is one that a template writes, unless the place is a number and
-- is clamped
pub record IsWritable (outer : ℕ) (d : Dimension) : Type 0 where
  pub over : length d.coefs ≡ outer
  pub coefs : All IsSmall d.coefs
  pub offset : (d.clamped && all_zero d.coefs) ≡ false → IsSmall d.offset

abbrev pub AreWritable : ℕ → List Dimension → Type 0
AreWritable outer ds = All (IsWritable outer) ds

-- each extent is at least 1 and no more than the size, and the memref has fewer than 2^32 elements: so it is from each dimension on
abbrev pub IsNarrow : List template.Dimension → Type 0
IsNarrow [] = Unit {0}
IsNarrow (d ∷ ds) = (1 ≤ d.extent) × (d.extent ≤ d.size) × (boxes.volume (flat_spans (d ∷ ds)) < 2 ^ 32) × IsNarrow ds

-- a region over these outer variables, of a memref of these sizes
pub record MayBePlaced (outer : List Name) (region : List Dimension) (sizes : List ℕ) : Type 0 where
  pub same : length sizes ≡ length region
  pub written : AreWritable (length outer) region
  pub well : AreWell (dims_over outer region sizes)
  pub narrow : IsNarrow (dims_over outer region sizes)
  pub count : product (template.dim_extents (dims_over outer region sizes)) < 2 ^ 63

-- so does each region that is found of a memref argument at a loop of a valid module
abbrev pub RegionsMayBePlaced : Type 0
RegionsMayBePlaced = (m : Module) → IsValid m → (name : Name) (ty : MemrefType) (s : Spot) (dma : Bool) (ds : List Dimension)
    → HasArgument m.args name (kind.Memref ty) → IsLoop s (nest m.body) → region_there m.args (nest m.body) name s ty.sizes dma ≡ Ok ds
    → MayBePlaced (outer_names m.args (way_to s (nest m.body))) ds ty.sizes
