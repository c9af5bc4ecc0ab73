-- The rooms of a text's fast memrefs.
use Rattle.std.specs.Prelude.{◌≡◌, ℕ, List, length, Some}
use Rattle.prompt_laws.specs.Rooms.{Room, room_at}
use Rattle.overlap_memory.specs.Tied.{FastShape}

-- the fast memrefs are those of a text's rooms, and a half that is allocated has the cells of its room
pub record AreRooms (rooms : List Room) (shape : FastShape) : Type 0 where
  pub count : shape.count ≡ length rooms
  pub cells : (n : ℕ) → shape.cells n ≡ (room_at rooms n).cells
  pub halves : (n : ℕ) → shape.halves n ≡ (room_at rooms n).halves
  pub known : (n c : ℕ) → shape.rooms n ≡ Some c → c ≡ shape.cells n
