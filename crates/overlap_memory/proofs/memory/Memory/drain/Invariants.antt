use Rattle.std.proofs.Common.{length}
use Rattle.prompt_semantics.specs.Device.{Device}
use Rattle.overlap_memory.specs.Tied.{Tied, FastShape}
use Rattle.overlap_memory.proofs.Drains.{Left}
use Rattle.overlap_memory.proofs.memory.Memory.drain.Given as goal

abbrev pub invariant-loop-transfer : goal.invariant-loop-transfer
invariant-loop-transfer g l = (shape : FastShape) (y : Device) → Tied l.bus shape l.initial.self y → Left l.bus shape l.self y

abbrev pub decreases-loop-transfer : goal.decreases-loop-transfer
decreases-loop-transfer g l = length l.self.records.items
