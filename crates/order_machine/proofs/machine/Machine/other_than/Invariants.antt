use Rattle.std.proofs.Common.{◌≡◌, List, drop}
use Rattle.bus_model.specs.declared.step.Step.{Step}
use Rattle.order_meaning.specs.Listed.{IsListed}
use Rattle.order_machine.specs.Policies.{other_than}
use Rattle.order_machine.specs.Standing.{Setting, IsAt, after}
use Rattle.order_machine.proofs.machine.Machine.other_than.Given as goal

-- what is left of the enabled steps tells it
abbrev pub invariant-loop-n : goal.invariant-loop-n
invariant-loop-n l = (s : Setting) (steps enabled : List Step) → IsAt s steps l.self → IsListed (after s steps) enabled → other_than l.engine (drop l.n enabled) ≡ other_than l.engine enabled
