-- The halves of fast memrefs as the code has them, against those of the machine.
use Rattle.std.specs.Prelude.{◌≡◌, ℕ, ◌<◌, ℤ, List, [], length, Option, slice_get, slice_index_or, Some}
use Rattle.fast_halves.specs.Shape.{HalfShape, HalvesShape, here, away}
use Rattle.prompt_laws.specs.Rooms.{Room, room_at}
use Rattle.order_meaning.specs.Machine.{Half, Here, Away}

abbrev pub no_halves : HalvesShape
no_halves = record { cells = 0; halves = [] }

-- the halves of a memref by its number
abbrev pub memref_at : List HalvesShape → ℕ → HalvesShape
memref_at hs number = slice_index_or hs number no_halves

abbrev pub half_at : List HalvesShape → ℕ → ℕ → Option HalfShape
half_at hs number half = slice_get (memref_at hs number).halves half

-- the machine's half and the code's are both here, with the same cells where the machine's is that long, or both away
-- with one tag. Before its allocation a half of the machine has no cells
abbrev pub SameHalf : ℕ → Half → HalfShape → Type 0
SameHalf cells (Here c) (here d) = length c ≡ cells → c ≡ d
SameHalf cells (Here c) (away u) = ⊥
SameHalf cells (Away t) (here d) = ⊥
SameHalf cells (Away t) (away u) = t ≡ u

-- as many memrefs as the rooms, with as many halves and cells; each half there is the machine's
pub record SameHalves (rooms : List Room) (halves : ℕ → ℕ → Half) (hs : List HalvesShape) : Type 0 where
  pub memrefs : length hs ≡ length rooms
  pub cells : (number : ℕ) → (memref_at hs number).cells ≡ (room_at rooms number).cells
  pub many : (number : ℕ) → length (memref_at hs number).halves ≡ (room_at rooms number).halves
  pub same : (number half : ℕ) (v : HalfShape) → half_at hs number half ≡ Some v → SameHalf (room_at rooms number).cells (halves number half) v

-- there is such a cell
pub record CellThere (hs : List HalvesShape) (number half cell : ℕ) : Type 0 where
  pub there : number < length hs
  pub half_there : half < length (memref_at hs number).halves
  pub cell_there : cell < (memref_at hs number).cells

abbrev pub HalfHere : List HalvesShape → ℕ → ℕ → Type 0
HalfHere hs number half = (cells : List ℤ) × (half_at hs number half ≡ Some (here cells))

abbrev pub HalfAway : List HalvesShape → ℕ → ℕ → Type 0
HalfAway hs number half = (tag : ℕ) × (half_at hs number half ≡ Some (away tag))
