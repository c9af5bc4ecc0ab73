-- What an executor may rely on at each action of a run of the prompt meaning.
use Rattle.std.specs.Prelude.{◌≡◌, ℕ, ◌+◌, ◌≤◌, ◌<◌, ℤ, false, List, [], ◌∷◌, length}
use Rattle.std.specs.List.{All}
use Rattle.affine_ast.specs.declared.types.Element.{Element}
use Rattle.affine_ast.specs.Sizes.{product}
use Rattle.bus_model.specs.declared.transfer.Transfer.{Transfer}
use Rattle.bus_model.specs.Places.{slow_place}
use Rattle.direct_meaning.specs.Action.{Place, Slow, Fast, Outside, Action, Loads, Stores, Allocates, Releases, Starts}
use Rattle.prompt_semantics.specs.Device.{Device, is_started}
use Rattle.run_parts.specs.Settled.{settled, CanSettle}
use Rattle.prompt_laws.specs.Rooms.{Room, room_of, room_at}

-- ---- places

-- a half of a fast memref that is allocated, or was
pub record HalfIn (rooms : List Room) (halves : ℕ → ℕ → List ℤ) (number half : ℕ) : Type 0 where
  pub there : number < length rooms
  pub half_there : half < (room_at rooms number).halves
  pub long : length (halves number half) ≡ (room_at rooms number).cells

-- a place in the slow list or in a half, or outside the memref, which is a fault
abbrev pub PlaceIn : List Room → Device → Place → Type 0
PlaceIn rooms y (Slow place) = place < length y.state.slow
PlaceIn rooms y (Fast number half cell) = HalfIn rooms y.halves number half × (cell < (room_at rooms number).cells)
PlaceIn rooms y Outside = Unit {0}

-- a transfer of at least one element, in chunks that don't overlap, between slow places and a half
pub record StartIn (rooms : List Room) (y : Device) (t : Transfer) : Type 0 where
  pub half : HalfIn rooms y.halves t.fast t.half
  pub inside : t.offset + t.count ≤ (room_at rooms t.fast).cells
  pub tag_fits : t.tag < 65536
  pub some : 1 ≤ t.count
  pub some_chunk : 1 ≤ t.chunk
  pub apart : t.chunk ≤ t.stride
  pub places : (e : ℕ) → e < t.count → slow_place t e < length y.state.slow
  pub places_fit : (e : ℕ) → e < t.count → slow_place t e < 1048576

-- the sizes of an allocation
pub record SizesFit (sizes : List ℕ) : Type 0 where
  pub positive : All (λ n. 1 ≤ n) sizes
  pub few : product sizes ≤ 16777216

-- an allocation by its number
pub record AllocIn (rooms : List Room) (number : ℕ) (element : Element) (sizes : List ℕ) : Type 0 where
  pub there : number < length rooms
  pub room : room_at rooms number ≡ room_of element sizes
  pub sizes_fit : SizesFit sizes

-- an action with its operands read reaches what there is
abbrev pub Reaches : List Room → Action → Device → Type 0
Reaches rooms (Loads r place) y = PlaceIn rooms y place
Reaches rooms (Stores x place) y = PlaceIn rooms y place
Reaches rooms (Allocates number element sizes) y = AllocIn rooms number element sizes
Reaches rooms (Releases number element sizes) y = SizesFit sizes
Reaches rooms (Starts t) y = StartIn rooms y t
Reaches rooms a y = Unit {0}

-- ---- states

-- an outstanding transfer, between so many slow places
pub record FlightFits (size : ℕ) (t : Transfer) : Type 0 where
  pub tag_fits : t.tag < 65536
  pub some_chunk : 1 ≤ t.chunk
  pub apart : t.chunk ≤ t.stride
  pub places : (e : ℕ) → e < t.count → slow_place t e < size
  pub places_fit : (e : ℕ) → e < t.count → slow_place t e < 1048576

-- outstanding transfers, each with a tag of its own
abbrev pub FlightsFit : ℕ → List Transfer → Type 0
FlightsFit size [] = Unit {0}
FlightsFit size (t ∷ ts) = FlightFits size t × (is_started ts t.tag ≡ false) × FlightsFit size ts

-- ---- both

pub record CanAct (rooms : List Room) (capacity : ℕ) (a : Action) (y : Device) : Type 0 where
  pub settles : CanSettle a y.state.registers
  pub reaches : Reaches rooms (settled y.state.registers a) y
  pub live : y.live ≤ capacity
  pub flights : FlightsFit (length y.state.slow) y.outstanding
