use Rattle.std.proofs.Common.{◌≡◌, ◌++◌, map, drop}
use Rattle.nest_domain.specs.Ways.{loop_names}
use Rattle.nest_domain.specs.Steps.{header_of}
use Rattle.nest_domain.proofs.domain.add_loop_names.Given as goal

abbrev pub invariant-loop-step : goal.invariant-loop-step
invariant-loop-step l = l.initial.names.items ++ loop_names (map header_of l.way) ≡ l.names.items ++ loop_names (map header_of (drop l.step-index l.way))
