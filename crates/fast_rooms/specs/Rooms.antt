-- Halves for the fast memrefs of a text.
use Rattle.std.specs.Prelude.{◌≡◌, pos, List, [], ◌∷◌, ◌++◌, replicate}
use Rattle.affine_ast.specs.declared.name.Name.{Name}
use Rattle.fast_halves.specs.Shape.{HalvesShape, here}
use Rattle.walk_program.specs.declared.plain.Plain.{Plain}
use Rattle.walk_program.specs.Reading.{nest_of, plain_of}
use Rattle.walk_program.specs.Tree.{Tree}
use Rattle.prompt_laws.specs.Rooms.{Room, rooms_in, rooms_of_plain}

-- halves that are all here, with 0 in each cell
pub record HasRoom (room : Room) (m : HalvesShape) : Type 0 where
  pub cells_are : m.cells ≡ room.cells
  pub halves_are : m.halves ≡ replicate room.halves (here (replicate room.cells (pos 0)))

abbrev pub HaveRooms : List Room → List HalvesShape → Type 0
HaveRooms [] [] = Unit {0}
HaveRooms [] (m ∷ hs) = ⊥
HaveRooms (room ∷ rooms) [] = ⊥
HaveRooms (room ∷ rooms) (m ∷ hs) = HasRoom room m × HaveRooms rooms hs

-- memrefs are added for the allocations of a text before those of the rest of it
abbrev pub Adds : Tree → Tree → List HalvesShape → List HalvesShape → Type 0
Adds whole rest old new = (names : List Name) (rooms : List Room) → HaveRooms rooms old
    → (more : List Room) × HaveRooms more new × (more ++ rooms_in (nest_of names rest) ≡ rooms ++ rooms_in (nest_of names whole))

-- a memref is added where a plain statement allocates one
abbrev pub AddsPlain : Plain → List HalvesShape → List HalvesShape → Type 0
AddsPlain p old new = (names : List Name) (rooms : List Room) → HaveRooms rooms old → HaveRooms (rooms ++ rooms_of_plain (plain_of names p)) new
