use Rattle.std.proofs.Common.{◌≡◌, length}
use Rattle.direct_meaning.specs.Direct.{folded, direct_step}
use Rattle.run_laws.specs.CanRun.{CanRun}
use Rattle.nest_meaning.specs.Held.{state_at, Same}
use Rattle.nest_meaning.proofs.plain.run.Given as goal

abbrev pub invariant-loop-action : goal.invariant-loop-action
invariant-loop-action l = record {
  names : l.machine.registers.names ≡ l.walk.names;
  runs : CanRun l.walk.left (state_at l.machine);
  same : Same l.fn.machine l.machine;
  folds : folded direct_step l.fn.walk.left (state_at l.fn.machine) ≡ folded direct_step l.walk.left (state_at l.machine);
}

abbrev pub decreases-loop-action : goal.decreases-loop-action
decreases-loop-action l = length l.walk.left
