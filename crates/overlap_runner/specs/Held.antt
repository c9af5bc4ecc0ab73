-- What the compute thread holds, against a state of the prompt meaning, and what it needs of that state for an action.
use Rattle.std.specs.Prelude.{◌≡◌, List, None}
use Rattle.direct_meaning.specs.Action.{Place, Action, Allocates, Releases, Starts}
use Rattle.prompt_semantics.specs.Device as model
use Rattle.run_parts.specs.Registered.{values_of}
use Rattle.prompt_laws.specs.Reaches.{PlaceIn, Reaches}
use Rattle.prompt_laws.specs.Rooms.{Room}
use Rattle.tag_table.specs.Shapes.{BusShape}
use Rattle.overlap_memory.specs.declared.memory.Memory.{Memory}
use Rattle.overlap_memory.specs.Tied.{Tied, FastShape, IsAllocated, with_allocated, with_released}
use Rattle.transfer_laws.specs.Law.{FitsBus}
use Rattle.overlap_runner.specs.declared.device.Device.{Device}
use Rattle.overlap_runner.specs.Rooms.{AreRooms}

-- the memory is tied to the state, and the registers hold its values
pub record At (bus : BusShape) (shape : FastShape) (d : Device) (y : model.Device) : Type 0 where
  pub tied : Tied bus shape d.memory y
  pub registers : values_of d.registers ≡ y.state.registers

-- a place within the memory
pub record PlaceReached (bus : BusShape) (rooms : List Room) (shape : FastShape) (x : Memory) (y : model.Device) (place : Place) : Type 0 where
  pub tied : Tied bus shape x y
  pub are : AreRooms rooms shape
  pub inside : PlaceIn rooms y place

-- an allocation isn't allocated; a start's half is, and its tag and its chunks are such as the bus has
abbrev pub IsRoomed : BusShape → FastShape → Action → Type 0
IsRoomed bus shape (Allocates number element sizes) = shape.rooms number ≡ None
IsRoomed bus shape (Starts t) = IsAllocated shape t.fast × FitsBus bus.tags t
IsRoomed bus shape a = Unit {0}

-- an action with its operands read can be taken
pub record Ready (bus : BusShape) (rooms : List Room) (shape : FastShape) (d : Device) (y : model.Device) (a : Action) : Type 0 where
  pub at : At bus shape d y
  pub are : AreRooms rooms shape
  pub reaches : Reaches rooms a y
  pub roomed : IsRoomed bus shape a

-- what is allocated behind an action
abbrev pub shape_after : FastShape → Action → FastShape
shape_after shape (Allocates number element sizes) = with_allocated shape number
shape_after shape (Releases number element sizes) = with_released shape number
shape_after shape a = shape
