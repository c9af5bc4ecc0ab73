-- What an action reaches in a state of the machine.
use Rattle.std.specs.Prelude.{◌≡◌, ℕ, ℤ, ◌+◌, ◌≤◌, ◌<◌, false, List, length, Some}
use Rattle.bus_model.specs.declared.transfer.Transfer.{Transfer}
use Rattle.bus_model.specs.Places.{slow_place}
use Rattle.bus_model.specs.Engines.{Flight, flight_of}
use Rattle.affine_ast.specs.declared.types.Element.{Element}
use Rattle.fast_halves.specs.Shape.{HalvesShape}
use Rattle.direct_meaning.specs.Action.{Place, Slow, Fast, Outside, Action, Loads, Stores, Allocates, Releases, Starts, Waits}
use Rattle.run_parts.specs.Settled.{settled, CanSettle}
use Rattle.prompt_laws.specs.Rooms.{Room, room_at, room_of}
use Rattle.prompt_laws.specs.Reaches.{SizesFit, FlightsFit}
use Rattle.order_meaning.specs.Machine.{Half, Here, Away, Core, transfers_of, holds_up}
use Rattle.order_memory.specs.Halves.{CellThere}

-- a half that is here has so many cells
abbrev pub IsLong : ℕ → Half → Type 0
IsLong cells (Here c) = length c ≡ cells
IsLong cells (Away tag) = Unit {0}

abbrev pub IsHome : Half → Type 0
IsHome (Here c) = Unit {0}
IsHome (Away tag) = ⊥

abbrev pub IsOut : Half → Type 0
IsOut (Here c) = ⊥
IsOut (Away tag) = Unit {0}

-- a half of a fast memref, with all its cells where it is here
pub record HalfIn (rooms : List Room) (x : Core) (number half : ℕ) : Type 0 where
  pub there : number < length rooms
  pub half_there : half < (room_at rooms number).halves
  pub long : IsLong (room_at rooms number).cells (x.halves number half)

-- a place in the slow list or in a half, or outside the memref, which is a fault
abbrev pub PlaceIn : List Room → Core → Place → Type 0
PlaceIn rooms x (Slow place) = place < length x.state.slow
PlaceIn rooms x (Fast number half cell) = HalfIn rooms x number half × (cell < (room_at rooms number).cells)
PlaceIn rooms x Outside = Unit {0}

-- the same of the lists of the code
abbrev pub PlaceThere : List ℤ → List HalvesShape → Place → Type 0
PlaceThere slow hs (Slow place) = place < length slow
PlaceThere slow hs (Fast number half cell) = CellThere hs number half cell
PlaceThere slow hs Outside = Unit {0}

-- a transfer of at least one element, between slow places and a half
pub record StartIn (rooms : List Room) (x : Core) (t : Transfer) : Type 0 where
  pub half : HalfIn rooms x t.fast t.half
  pub inside : t.offset + t.count ≤ (room_at rooms t.fast).cells
  pub tag_fits : t.tag < 65536
  pub some : 1 ≤ t.count
  pub some_chunk : 1 ≤ t.chunk
  pub apart : t.chunk ≤ t.stride
  pub places : (e : ℕ) → e < t.count → slow_place t e < length x.state.slow
  pub places_fit : (e : ℕ) → e < t.count → slow_place t e < 1048576

-- an allocation by its number, whose halves are here
pub record AllocIn (rooms : List Room) (x : Core) (number : ℕ) (element : Element) (sizes : List ℕ) : Type 0 where
  pub there : number < length rooms
  pub room : room_at rooms number ≡ room_of element sizes
  pub sizes_fit : SizesFit sizes
  pub home : (half : ℕ) → IsHome (x.halves number half)

-- a wait that isn't held up, on a transfer whose half is away
pub record WaitIn (x : Core) (tag count : ℕ) : Type 0 where
  pub passes : holds_up (flight_of x.flights tag) count ≡ false
  pub out : (f : Flight) → flight_of x.flights tag ≡ Some f → IsOut (x.halves f.transfer.fast f.transfer.half)

-- an action with its operands read reaches what there is
abbrev pub Reaches : List Room → Action → Core → Type 0
Reaches rooms (Loads r place) x = PlaceIn rooms x place
Reaches rooms (Stores v place) x = PlaceIn rooms x place
Reaches rooms (Allocates number element sizes) x = AllocIn rooms x number element sizes
Reaches rooms (Releases number element sizes) x = SizesFit sizes
Reaches rooms (Starts t) x = StartIn rooms x t
Reaches rooms (Waits tag count) x = WaitIn x tag count
Reaches rooms a x = Unit {0}

pub record CanDo (rooms : List Room) (capacity : ℕ) (a : Action) (x : Core) : Type 0 where
  pub reaches : Reaches rooms a x
  pub live : x.live ≤ capacity
  pub flights : FlightsFit (length x.state.slow) (transfers_of x.flights)

-- the same of an action as it stands, whose operands lie in the ranges of their types
pub record CanTake (rooms : List Room) (capacity : ℕ) (a : Action) (x : Core) : Type 0 where
  pub settles : CanSettle a x.state.registers
  pub can : CanDo rooms capacity (settled x.state.registers a) x
