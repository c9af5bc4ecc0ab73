use Rattle.std.proofs.Common.{[], ◌-◌, ◌^◌}
use Rattle.order_machine.specs.Policies.{Obeying}
use Rattle.order_machine.specs.Standing.{Setting, IsAt}
use Rattle.order_machine.proofs.machine.Machine.obey.Given as goal

-- the machine stands after a run by the policy
abbrev pub invariant-loop-step : goal.invariant-loop-step
invariant-loop-step l = (s : Setting) → IsAt s [] l.fn.self → Obeying s l.policy l.moved l.self

abbrev pub decreases-loop-step : goal.decreases-loop-step
decreases-loop-step l = 2 ^ 48 - l.self.steps
