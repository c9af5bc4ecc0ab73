-- Where a run stands, and how it ends.
use Rattle.std.specs.Prelude.{◌≡◌, List, []}
use Rattle.bus_model.specs.declared.step.Verdict.{Verdict}
use Rattle.direct_meaning.specs.Action.{Action}
use Rattle.direct_meaning.specs.Direct.{Outcome, folded, verdict_of, state_of}
use Rattle.prompt_semantics.specs.Device as model
use Rattle.prompt_semantics.specs.Prompt.{prompt_step}
use Rattle.prompt_laws.specs.Along.{Along}
use Rattle.prompt_laws.specs.Reaches.{CanAct}
use Rattle.prompt_laws.specs.Rooms.{Room}
use Rattle.order_meaning.specs.Orderly.{IsOrderly}
use Rattle.tag_table.specs.Shapes.{BusShape}
use Rattle.overlap_memory.specs.Tied.{Tied, FastShape}
use Rattle.transfer_laws.specs.Law.{AllWithin}
use Rattle.overlap_runner.specs.declared.device.Device.{Device}
use Rattle.overlap_runner.specs.Held.{At}
use Rattle.overlap_runner.specs.Rooms.{AreRooms}

-- the thread stands for a state from which these actions are left, each of which can be taken when it comes
pub record StandsAt (bus : BusShape) (rooms : List Room) (shape : FastShape) (y : model.Device) (left : List Action) (d : Device) : Type 0 where
  pub at : At bus shape d y
  pub are : AreRooms rooms shape
  pub along : Along (prompt_step d.filler d.capacity) (CanAct rooms d.capacity) left y
  pub orderly : IsOrderly bus.words shape.rooms left
  pub within : AllWithin bus.tags left

-- it stands for some state
pub record Stands (bus : BusShape) (left : List Action) (d : Device) : Type 0 where
  pub rooms : List Room
  pub shape : FastShape
  pub state : model.Device
  pub at : StandsAt bus rooms shape state left d

-- a run came to this verdict, and the thread stands for the state of the outcome
pub record Comes (bus : BusShape) (verdict : Verdict) (outcome : Outcome model.Device) (d : Device) : Type 0 where
  pub verdict_is : verdict ≡ verdict_of outcome
  pub shape : FastShape
  pub at : At bus shape d (state_of outcome)

-- the same, with every transfer taken back
pub record Ends (bus : BusShape) (verdict : Verdict) (outcome : Outcome model.Device) (d : Device) : Type 0 where
  pub verdict_is : verdict ≡ verdict_of outcome
  pub shape : FastShape
  pub tied : Tied bus shape d.memory (record (state_of outcome) { outstanding = [] })

-- wherever the thread stood at first, it ended so
pub record EndsFrom (bus : BusShape) (left : List Action) (before : Device) (verdict : Verdict) (after : Device) : Type 0 where
  pub from : (rooms : List Room) (shape : FastShape) (y : model.Device) → StandsAt bus rooms shape y left before
      → Ends bus verdict (folded (prompt_step before.filler before.capacity) left y) after
