-- Where a run stands: what a device holds, against a state of the prompt meaning with the actions that are left.
use Rattle.std.specs.Prelude.{◌+◌, ◌≤◌, ◌^◌, List, vec_capacity}
use Rattle.direct_meaning.specs.Action.{Action}
use Rattle.prompt_semantics.specs.Device as model
use Rattle.prompt_semantics.specs.Prompt.{prompt_step}
use Rattle.prompt_laws.specs.Along.{Along}
use Rattle.prompt_laws.specs.Costs.{costs}
use Rattle.prompt_laws.specs.Reaches.{CanAct}
use Rattle.prompt_laws.specs.Rooms.{Room}
use Rattle.prompt_meaning.specs.declared.device.Device.{Device}
use Rattle.prompt_meaning.specs.Held.{device_at, Agrees}
use Rattle.prompt_meaning.specs.Memrefs.{AreRooms}

pub record StandsAt (rooms : List Room) (y : model.Device) (left : List Action) (d : Device) : Type 0 where
  pub agrees : Agrees rooms y (device_at d)
  pub along : Along (prompt_step d.filler d.capacity) (CanAct rooms d.capacity) left y
  pub are : AreRooms rooms d.fasts.items
  pub steps : y.actions + y.engine_steps + costs left ≤ 2 ^ 60
  pub records : 65536 ≤ vec_capacity d.outstanding

-- it stands at some state
pub record Stands (left : List Action) (d : Device) : Type 0 where
  pub rooms : List Room
  pub state : model.Device
  pub at : StandsAt rooms state left d
