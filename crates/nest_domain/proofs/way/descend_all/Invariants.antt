use Rattle.std.proofs.Common.{map, drop}
use Rattle.nest_domain.specs.Steps.{header_of}
use Rattle.nest_domain.proofs.Passing.{Descended}
use Rattle.nest_domain.proofs.way.descend_all.Given as goal

abbrev pub invariant-loop-step : goal.invariant-loop-step
invariant-loop-step l = Descended l.start l.here l.steps (drop l.step-index l.steps) (map header_of l.initial.way.items) (map header_of l.way.items)
