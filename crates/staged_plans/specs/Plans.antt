-- The placements of a plan, in numbers and names: each takes the region of its memref at its loop, is read in where the region
-- isn't covered, written out where the loop stores to it, and goes by transfers of the box's shape, or by copy loops.
use Rattle.std.specs.Prelude.{◌≡◌, ℕ, suc, ℤ, Bool, true, false, not, ◌&&◌, ◌||◌, if◌then◌else◌, List, [], ◌∷◌, Option, Some, None}
use Rattle.affine_ast.specs.declared.module.Arg.{Arg}
use Rattle.affine_ast.specs.declared.name.Name.{Name}
use Rattle.affine_ast.specs.declared.types.MemrefType.{MemrefType}
use Rattle.affine_ast.specs.Names.{same_name}
use Rattle.affine_ast.specs.Nest.{Nest}
use Rattle.direct_meaning.specs.Action.{SlowMemref}
use Rattle.direct_meaning.specs.Memory.{start_env}
use Rattle.boxes.specs.Boxes.{Shape, Whole, OneRun, Even, Runs, Mixed, shape}
use Rattle.nest_domain.specs.Ways.{Use, Affine, Other}
use Rattle.placement_texts.specs.Fold.{Step}
use Rattle.placement_texts.specs.Spots.{Spot, HasLine, found}
use Rattle.placement_texts.specs.Template.{Dimension, How, Copies, Transfers}
use Rattle.staging_laws.specs.Law.{flat_spans}
use Rattle.placement_regions.specs.Sites.{from_spot, way_to, loop_uses, IsOfRegion}
use Rattle.placement_covers.specs.Law.{is_covered}

-- the stride and the chunk of the transfer that carries a box of this shape, where it has several chunks
abbrev pub chunks_of : Shape → Option (ℕ × ℕ)
chunks_of Whole = None
chunks_of OneRun = None
chunks_of (Even chunk stride) = Some (stride, chunk)
chunks_of (Runs chunk stride) = Some (stride, chunk)
chunks_of Mixed = None

abbrev pub how_over : Bool → List Dimension → How
how_over dma ds = if dma then Transfers (chunks_of (shape (flat_spans ds))) else Copies

-- whether one of the accesses is a store
abbrev pub has_store : List Use → Bool
has_store [] = false
has_store (Affine way stores at ∷ us) = stores || has_store us
has_store (Other ∷ us) = has_store us

-- the accesses of a memref in the loop at a place
abbrev pub uses_there : Nest → Name → Spot → List Use
uses_there n m s = loop_uses m (way_to s n) (from_spot s n)

-- a placement in a module with these arguments and this text, for these index arguments
pub record IsPlanned (dma : Bool) (args : List Arg) (symbols : List ℤ) (n : Nest) (x : Step) : Type 0 where
  pub ty : MemrefType
  pub element : x.placement.element ≡ ty.element
  pub region : IsOfRegion args n x.placement ty (found x.spot n) dma
  pub line : HasLine (found x.spot n) n
  pub reads : x.placement.reads ≡ not (dma && is_covered args n x.placement.memref (found x.spot n) region.region)
  pub writes : x.placement.writes ≡ has_store (uses_there n x.placement.memref (found x.spot n))
  pub how : x.placement.how ≡ how_over dma x.placement.dims
  pub home : (start_env args symbols).home x.placement.memref ≡ Some (SlowMemref x.order x.first)

-- which step makes a name, counted from 1: each step makes the names of its template, no two of which are one
module _ (made_by : Name → ℕ) where
  pub record IsNamed (k : ℕ) (x : Step) : Type 0 where
    pub made : (i : ℕ) → made_by (x.placement.name i) ≡ suc k
    pub apart : (i j : ℕ) → same_name (x.placement.name i) (x.placement.name j) ≡ true → i ≡ j

  abbrev pub AllNamed : ℕ → List Step → Type 0
  AllNamed k [] = Unit {0}
  AllNamed k (x ∷ xs) = IsNamed k x × AllNamed (suc k) xs
