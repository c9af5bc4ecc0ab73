use Rattle.std.proofs.Common.{[], ◌-◌, ◌^◌}
use Rattle.order_machine.specs.Standing.{Setting, IsAt}
use Rattle.order_machine.proofs.Chosen.{Ran}
use Rattle.order_machine.proofs.machine.Machine.run_by.Given as goal

-- the machine stands after a run by the pick, whose trace and last number are these
abbrev pub invariant-loop-self : goal.invariant-loop-self
invariant-loop-self l = (s : Setting) → IsAt s [] l.fn.self → Ran s l.fn.pick l.x l.trace l.self

abbrev pub decreases-loop-self : goal.decreases-loop-self
decreases-loop-self l = 2 ^ 48 - l.self.steps
