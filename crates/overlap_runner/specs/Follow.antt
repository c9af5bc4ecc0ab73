-- What the code answers, against an outcome of the prompt meaning.
use Rattle.std.specs.Prelude.{◌≡◌, Result, Ok, Err}
use Rattle.bus_model.specs.declared.step.FaultKind.{FaultKind}
use Rattle.direct_meaning.specs.Direct.{Outcome, End, Fault}
use Rattle.prompt_semantics.specs.Device as model
use Rattle.tag_table.specs.Shapes.{BusShape}
use Rattle.overlap_memory.specs.Tied.{FastShape}
use Rattle.overlap_runner.specs.declared.device.Device.{Device}
use Rattle.overlap_runner.specs.Held.{At}

-- an action is done, or is that fault, and the thread then stands for the outcome's state
abbrev pub Follows : BusShape → FastShape → FastShape → Result (Unit {0}) FaultKind → Outcome model.Device → Device → Type 0
Follows bus before after (Ok done) outcome d = (y : model.Device) × (outcome ≡ End y) × At bus after d y
Follows bus before after (Err kind) outcome d = (y : model.Device) × (outcome ≡ Fault kind y) × At bus before d y

-- the same names, filler and capacity
pub record Same (old new : Device) : Type 0 where
  pub names : new.registers.names ≡ old.registers.names
  pub filler : new.filler ≡ old.filler
  pub capacity : new.capacity ≡ old.capacity
