-- The loop at a place of a text, the way to it, and the dimensions that a placement takes from a region there.
use Rattle.std.specs.Prelude.{◌≡◌, ℕ, zero, suc, ◌≤◌, ℤ, pos, ◌-ℤ◌, Bool, true, false, if◌then◌else◌, List, [], ◌∷◌, ◌++◌, Result, Ok}
use Rattle.std.specs.Int.{int_min, int_max}
use Rattle.std.specs.Ordering.{int_eq}
use Rattle.affine_ast.specs.declared.module.Arg.{Arg}
use Rattle.affine_ast.specs.declared.module.ArgKind.TheVariants as kind
use Rattle.affine_ast.specs.declared.name.Name.{Name}
use Rattle.affine_ast.specs.declared.types.MemrefType.{MemrefType}
use Rattle.affine_ast.specs.Nest.{Nest, Nothing, Loop, Branch, Does}
use Rattle.direct_meaning.specs.Turns.{gap}
use Rattle.nest_domain.specs.Ways as ways
use Rattle.nest_domain.specs.Ways.{Header, Use, loop_names}
use Rattle.nest_domain.specs.Domains.{symbol_names}
use Rattle.nest_domain.specs.Boxes as region
use Rattle.access_region.specs.Faults.{NoRegion}
use Rattle.access_region.specs.Regions.{uses_at}
use Rattle.access_region.specs.Places.{region_of}
use Rattle.placement_texts.specs.Template.{Dimension, Placement}
use Rattle.placement_texts.specs.Spots.{Spot, Here, Behind, Inside, Other, IsLoop}
use Rattle.placement_texts.specs.Valid.{HasArgument}

-- the statements from a place on, to the end of their region
abbrev pub from_spot : Spot → Nest → Nest
from_spot Here n = n
from_spot (Behind s) (Loop line v l u step body rest) = from_spot s rest
from_spot (Behind s) (Branch line set names first has other rest) = from_spot s rest
from_spot (Behind s) (Does line q rest) = from_spot s rest
from_spot (Inside s) (Loop line v l u step body rest) = from_spot s body
from_spot (Inside s) (Branch line set names first has other rest) = from_spot s first
from_spot (Other s) (Branch line set names first has other rest) = from_spot s other
from_spot s n = Nothing

-- a loop without what follows it
abbrev pub alone : Nest → Nest
alone (Loop line v l u step body rest) = Loop line v l u step body Nothing
alone n = n

-- what stands round a place and before it, from the outside in
abbrev pub way_to : Spot → Nest → List Header
way_to Here n = []
way_to (Behind s) (Loop line v l u step body rest) = ways.Past body ∷ way_to s rest
way_to (Behind s) (Branch line set names first has other rest) = ways.Past first ∷ (ways.Past other ∷ way_to s rest)
way_to (Behind s) (Does line q rest) = ways.Behind q ∷ way_to s rest
way_to (Inside s) (Loop line v l u step body rest) = ways.Round v l u step ∷ way_to s body
way_to (Inside s) (Branch line set names first has other rest) = ways.Given set names ∷ way_to s first
way_to (Other s) (Branch line set names first has other rest) = ways.Except set names first ∷ way_to s other
way_to s n = []

-- ---- a region there

-- the accesses of a memref in a loop at the end of a way
abbrev pub loop_uses : Name → List Header → Nest → List Use
loop_uses m way (Loop line v l u step body rest) = uses_at m way v l u step body
loop_uses m way n = []

-- the region of a memref at the loop there, for transfers or for copy loops
abbrev pub region_there : List Arg → Nest → Name → Spot → List ℕ → Bool → Result (List region.Dimension) NoRegion
region_there args n m s sizes dma = region_of args (way_to s n) (loop_uses m (way_to s n) (from_spot s n)) sizes dma

-- the outer variables of a loop at the end of a way: the index arguments, and the loops from the outside in
abbrev pub outer_names : List Arg → List Header → List Name
outer_names args way = symbol_names args ++ loop_names way

-- the terms of a combination, those with a coefficient other than 0
abbrev pub terms_over : List Name → List ℤ → List (Name × ℤ)
terms_over [] cs = []
terms_over (n ∷ ns) [] = []
terms_over (n ∷ ns) (a ∷ cs) = if int_eq a (pos 0) then terms_over ns cs else (n, a) ∷ terms_over ns cs

-- the offset from these terms: a place that is a number and is clamped is the clamped number, whatever the region's own offset is
abbrev pub offset_over : List (Name × ℤ) → region.Dimension → ℕ → ℤ
offset_over [] d size = if d.clamped then int_max (int_min d.offset (pos size -ℤ d.extent)) (pos 0) else d.offset
offset_over (t ∷ ts) d size = d.offset

-- the dimension of a placement from that of a region
abbrev pub dim_over : List Name → region.Dimension → ℕ → Dimension
dim_over ns d size = record {
  size = size;
  terms = terms_over ns d.coefs;
  offset = offset_over (terms_over ns d.coefs) d size;
  extent = gap d.extent;
  clamped = d.clamped;
}

abbrev pub dims_over : List Name → List region.Dimension → List ℕ → List Dimension
dims_over ns [] sizes = []
dims_over ns (d ∷ ds) [] = []
dims_over ns (d ∷ ds) (size ∷ sizes) = dim_over ns d size ∷ dims_over ns ds sizes

-- a placement at the loop there of a memref argument of this type, whose box is its region
pub record IsOfRegion (args : List Arg) (n : Nest) (p : Placement) (ty : MemrefType) (s : Spot) (dma : Bool) : Type 0 where
  pub loop : IsLoop s n
  pub memref : HasArgument args p.memref (kind.Memref ty)
  pub region : List region.Dimension
  pub is : region_there args n p.memref s ty.sizes dma ≡ Ok region
  pub dims : p.dims ≡ dims_over (outer_names args (way_to s n)) region ty.sizes

-- each extent is at least 1, and no more than the size
abbrev pub ExtentsFit : List Dimension → Type 0
ExtentsFit [] = Unit {0}
ExtentsFit (d ∷ ds) = (1 ≤ d.extent) × (d.extent ≤ d.size) × ExtentsFit ds
