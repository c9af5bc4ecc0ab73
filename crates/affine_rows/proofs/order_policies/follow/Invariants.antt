use Rattle.order_machine.specs.Standing.{IsSomewhere}
use Rattle.affine_rows.proofs.order_policies.follow.Given as goal

abbrev pub invariant-loop-step : goal.invariant-loop-step
invariant-loop-step l = IsSomewhere l.machine
