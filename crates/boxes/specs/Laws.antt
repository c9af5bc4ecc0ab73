-- Laws of boxes.
use Rattle.std.specs.Prelude.{◌≡◌, ℕ, ◌<◌, false, List}
use Rattle.boxes.specs.Boxes.{Side, volume, count, IsBox, InBox, cell, first, number_at, place_at, shape, chunk_of, stride_of, is_mixed, slow_at}

-- a box's cells lie in the memref in the order of their numbers, so no two are one
pub record CellsKeepOrder : Type 0 where
  pub inside : (ds : List Side) (t : ℕ) → IsBox ds → t < count ds → cell ds t < volume ds
  pub rises : (ds : List Side) (t u : ℕ) → IsBox ds → t < u → u < count ds → cell ds t < cell ds u

-- an element of the memref whose subscripts lie in the box is the cell of its number there
abbrev pub ElementsAreCells : Type 0
ElementsAreCells = (ds : List Side) (xs : List ℕ) → IsBox ds → InBox ds xs → cell ds (number_at ds xs) ≡ place_at ds xs

-- where the cells are runs at equal distances, one transfer with that chunk and stride carries each cell of the box
abbrev pub OneTransferCarries : Type 0
OneTransferCarries = (ds : List Side) → IsBox ds → is_mixed (shape ds) ≡ false → (t : ℕ) → t < count ds
    → slow_at (first ds) (stride_of (shape ds) (count ds)) (chunk_of (shape ds) (count ds)) t ≡ cell ds t
