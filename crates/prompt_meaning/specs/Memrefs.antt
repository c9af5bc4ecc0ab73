-- The cells of fast memrefs, as halves.
use Rattle.std.specs.Prelude.{◌≡◌, ℕ, zero, suc, ◌+◌, ◌*◌, ◌≤◌, ◌<◌, ℤ, false, List, [], ◌∷◌, ◌++◌, length, replicate, take, drop, Option, Some, None, nat_eq}
use Rattle.affine_ast.specs.declared.name.Name.{Name}
use Rattle.prompt_laws.specs.Rooms.{Room, rooms_in, rooms_of_plain}
use Rattle.walk_program.specs.declared.plain.Plain.{Plain}
use Rattle.walk_program.specs.Reading.{nest_of, plain_of}
use Rattle.walk_program.specs.Tree.{Tree}
use Rattle.prompt_meaning.specs.declared.fast.FastMemref.{FastMemref}

abbrev pub half_in : Option FastMemref → ℕ → List ℤ
half_in None h = []
half_in (Some f) h = take f.half (drop (h * f.half) f.cells.items)

abbrev pub memref_at : List FastMemref → ℕ → Option FastMemref
memref_at [] number = None
memref_at (f ∷ fasts) zero = Some f
memref_at (f ∷ fasts) (suc number) = memref_at fasts number

-- the cells of each half of each memref
abbrev pub halves_at : List FastMemref → ℕ → ℕ → List ℤ
halves_at fasts number h = half_in (memref_at fasts number) h

-- there is such a cell
pub record CellIn (fasts : List FastMemref) (number h cell : ℕ) : Type 0 where
  pub memref : FastMemref
  pub is : memref_at fasts number ≡ Some memref
  pub there : number < length fasts
  pub in_half : cell < memref.half
  pub inside : h * memref.half + cell < length memref.cells.items

-- each half of a memref that is there holds a number in all cells, and the halves of others are as before
pub record FillsHalves (number : ℕ) (value : ℤ) (old new : List FastMemref) : Type 0 where
  pub filled : (f : FastMemref) (h : ℕ) → memref_at old number ≡ Some f → h * f.half + f.half ≤ length f.cells.items → halves_at new number h ≡ replicate f.half value
  pub others : (n h : ℕ) → nat_eq number n ≡ false → halves_at new n h ≡ halves_at old n h

-- a memref has as many cells as its room
pub record HasRoom (room : Room) (f : FastMemref) : Type 0 where
  pub half_is : f.half ≡ room.cells
  pub cells_are : length f.cells.items ≡ room.halves * room.cells

abbrev pub AreRooms : List Room → List FastMemref → Type 0
AreRooms [] [] = Unit {0}
AreRooms [] (f ∷ fasts) = ⊥
AreRooms (room ∷ rooms) [] = ⊥
AreRooms (room ∷ rooms) (f ∷ fasts) = HasRoom room f × AreRooms rooms fasts

-- memrefs are added for the allocations of a text before those of the rest of it
abbrev pub Adds : Tree → Tree → List FastMemref → List FastMemref → Type 0
Adds whole rest old new = (names : List Name) (rooms : List Room) → AreRooms rooms old → (more : List Room) × AreRooms more new × (more ++ rooms_in (nest_of names rest) ≡ rooms ++ rooms_in (nest_of names whole))

-- a memref is added where a plain statement allocates one
abbrev pub AddsPlain : Plain → List FastMemref → List FastMemref → Type 0
AddsPlain p old new = (names : List Name) (rooms : List Room) → AreRooms rooms old → AreRooms (rooms ++ rooms_of_plain (plain_of names p)) new
