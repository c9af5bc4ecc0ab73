-- Boxes that one transfer carries, with one chunk and one stride; others are widened.
use Rattle.std.specs.Prelude.{ℕ, zero, suc, ℤ, pos, Bool, true, false, if◌then◌else◌, List, [], ◌∷◌, length, replicate}
use Rattle.std.specs.Ordering.{int_eq}
use Rattle.nest_domain.specs.Boxes.{Dimension}
use Rattle.access_region.specs.declared.widening.Shape.{Shape}
use Rattle.access_region.specs.declared.widening.Shape.TheVariants.{Whole, OneRun, EvenRuns, Runs, Mixed}

-- a dimension of a region with the memref's size
pub record Side : Type 0 where
  pub dim : Dimension
  pub size : ℤ

abbrev pub sides : List Dimension → List ℕ → List Side
sides [] ns = []
sides (d ∷ ds) [] = []
sides (d ∷ ds) (n ∷ ns) = record { dim = d; size = pos n } ∷ sides ds ns

abbrev pub is_whole : Side → Bool
is_whole d = int_eq d.dim.extent d.size

abbrev pub is_one : Side → Bool
is_one d = int_eq d.dim.extent (pos 1)

-- how the elements of a box lie, from the last dimension on: it is all of the memref; they are one run; they are runs at equal
-- distances, which the next dimension goes on with; they are runs at equal distances; or none of these
abbrev pub shape_over : Side → Shape → Shape
shape_over d Whole = if is_whole d then Whole else OneRun
shape_over d OneRun = if is_one d then OneRun else (if is_whole d then EvenRuns else Runs)
shape_over d EvenRuns = if is_whole d then EvenRuns else Runs
shape_over d Runs = if is_one d then Runs else Mixed
shape_over d Mixed = Mixed

unfoldable pub shape : List Side → Shape
shape [] = Whole
shape (d ∷ ds) = shape_over d (shape ds)

abbrev pub is_mixed : Shape → Bool
is_mixed Mixed = true
is_mixed Whole = false
is_mixed OneRun = false
is_mixed EvenRuns = false
is_mixed Runs = false

-- whether each dimension is whole
abbrev pub all_whole : List Side → Bool
all_whole [] = true
all_whole (d ∷ ds) = if is_whole d then all_whole ds else false

-- all of a dimension of this size
abbrev pub whole_dim : Dimension → ℤ → Dimension
whole_dim d size = record { coefs = replicate (length d.coefs) (pos 0); offset = pos 0; extent = size; clamped = false }

abbrev pub made_whole : Side → Side
made_whole d = record { dim = whole_dim d.dim d.size; size = d.size }

-- the last dimension that isn't whole is made whole
abbrev pub last_whole : List Side → List Side
last_whole [] = []
last_whole (d ∷ ds) = if all_whole ds then made_whole d ∷ ds else d ∷ last_whole ds

abbrev pub widened_by : ℕ → List Side → List Side
widened_by zero ds = ds
widened_by (suc n) ds = if is_mixed (shape ds) then widened_by n (last_whole ds) else ds

abbrev pub dims_of : List Side → List Dimension
dims_of [] = []
dims_of (d ∷ ds) = d.dim ∷ dims_of ds

-- dimensions are made whole, from the last on, until one transfer carries the box
unfoldable pub widened : List Dimension → List ℕ → List Dimension
widened ds ns = dims_of (widened_by (length ds) (sides ds ns))

-- the region, widened for transfers where these are asked for
abbrev pub for_transfers : Bool → List ℕ → List Dimension → List Dimension
for_transfers dma sizes ds = if dma then widened ds sizes else ds
