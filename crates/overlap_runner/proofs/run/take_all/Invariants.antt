use Rattle.std.proofs.Common.{◌≡◌, List, length}
use Rattle.direct_meaning.specs.Direct.{folded}
use Rattle.prompt_semantics.specs.Device as model
use Rattle.prompt_semantics.specs.Prompt.{prompt_step}
use Rattle.prompt_laws.specs.Rooms.{Room}
use Rattle.overlap_memory.specs.Tied.{FastShape}
use Rattle.overlap_runner.specs.Follow.{Same}
use Rattle.overlap_runner.specs.Runs.{StandsAt}
use Rattle.overlap_runner.proofs.run.take_all.Given as goal

-- wherever the run stood at first, it stands at a state from which the rest comes to the same
abbrev pub invariant-loop-action : goal.invariant-loop-action
invariant-loop-action g l = record {
  names : l.device.registers.names ≡ l.walk.names;
  same : Same l.fn.device l.device;
  stands : (rooms : List Room) (shape : FastShape) (y : model.Device) → StandsAt l.bus rooms shape y l.fn.walk.left l.fn.device
      → (now : FastShape) × (z : model.Device) × StandsAt l.bus rooms now z l.walk.left l.device × (folded (prompt_step l.fn.device.filler l.fn.device.capacity) l.fn.walk.left y ≡ folded (prompt_step l.fn.device.filler l.fn.device.capacity) l.walk.left z);
}

abbrev pub decreases-loop-action : goal.decreases-loop-action
decreases-loop-action g l = length l.walk.left
