-- The region of a memref at a loop of a text, and what is gathered for it.
use Rattle.std.specs.Prelude.{ℕ, ◌+◌, Bool, false, List, [], Option, Some, None, Result, Ok, Err}
use Rattle.affine_ast.specs.declared.module.Arg.{Arg}
use Rattle.affine_ast.specs.declared.module.ArgKind.{ArgKind}
use Rattle.affine_ast.specs.declared.module.ArgKind.TheVariants.{Memref, Index}
use Rattle.affine_ast.specs.declared.name.Name.{Name}
use Rattle.affine_ast.specs.declared.types.Access.{Access}
use Rattle.affine_ast.specs.Intervals.{Ranges}
use Rattle.affine_ast.specs.Nest.{Nest, Loop}
use Rattle.module_work.specs.Workable.{WorkableAccess}
use Rattle.nest_domain.specs.Ways.{Header, Use, Affine, Other, Spot, loop_count}
use Rattle.nest_domain.specs.Domains.{symbol_count, access}
use Rattle.nest_domain.specs.Boxes.{Dimension}
use Rattle.nest_domain.specs.Ready.{Ready, ranges_at_end}
use Rattle.text_places.specs.Blocks.{Block}
use Rattle.box_covers.specs.Covers.{covers}
use Rattle.access_region.specs.Faults.{NoRegion, unplaced, ◌>>=◌, by_form}
use Rattle.access_region.specs.Candidates.{Reaching}
use Rattle.access_region.specs.Regions.{reaching_of, uses_at}
use Rattle.access_region.specs.Places.{region_of}

-- the sizes of an argument: none where it is no memref
abbrev pub kind_sizes : ArgKind → List ℕ
kind_sizes (Memref ty) = ty.sizes
kind_sizes (Index range) = []

-- the loop that stands first at the end of a way
abbrev pub loop_in : List Header → Nest → Option Block
loop_in way (Loop line v l u s body rest) = Some (record { way = way; line = line; var = v; lower = l; upper = u; step = s; body = body })
loop_in way n = None

abbrev pub loop_at : Spot → Option Block
loop_at s = loop_in s.way s.here

-- the accesses of a memref in a loop
abbrev pub uses_in : Name → Block → List Use
uses_in m b = uses_at m b.way b.var b.lower b.upper b.step b.body

-- the region of a memref of these sizes at a loop
abbrev pub region_in : List Arg → Block → Name → List ℕ → Bool → Result (List Dimension) NoRegion
region_in args b m sizes dma = region_of args b.way (uses_in m b) sizes dma

abbrev pub region_by : List Arg → Option Block → Name → List ℕ → Bool → Result (List Dimension) NoRegion
region_by args (Some b) m sizes dma = region_in args b m sizes dma
region_by args None m sizes dma = Err unplaced

-- at the loop that stands there
abbrev pub region_at : List Arg → Spot → Name → List ℕ → Bool → Result (List Dimension) NoRegion
region_at args s m sizes dma = region_by args (loop_at s) m sizes dma

-- ---- covers
-- whether a box of a memref is covered at a loop
abbrev pub covers_in : List Arg → Block → Name → List Dimension → Bool
covers_in args b m ds = covers args b.way (uses_in m b) (symbol_count args + loop_count b.way) ds

abbrev pub covers_by : List Arg → Option Block → Name → List Dimension → Bool
covers_by args (Some b) m ds = covers_in args b m ds
covers_by args None m ds = false

-- at the loop that stands there
abbrev pub covers_at : List Arg → Spot → Name → List Dimension → Bool
covers_at args s m ds = covers_by args (loop_at s) m ds

-- ---- what is gathered
-- the way to an access can be gone along, and its subscripts can be formed
abbrev pub ReadyUse : Ranges → Use → Type 0
ReadyUse rho (Affine way stores at) = Ready way rho × WorkableAccess (ranges_at_end way rho) at
ReadyUse rho Other = Unit {0}

-- what a region asks of one access
abbrev pub reached_at : List Arg → List Header → Access → Result Reaching NoRegion
reached_at args way at = by_form (access args way at) >>= (λ a. Ok (reaching_of at a))

abbrev pub reaching_use : List Arg → Use → Result Reaching NoRegion
reaching_use args (Affine way stores at) = reached_at args way at
reaching_use args Other = Err unplaced
