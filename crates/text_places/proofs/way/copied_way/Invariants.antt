use Rattle.std.proofs.Common.{◌≡◌, ◌++◌, map, drop}
use Rattle.nest_domain.specs.Steps.{header_of}
use Rattle.text_places.proofs.way.copied_way.Given as goal

abbrev pub invariant-loop-step : goal.invariant-loop-step
invariant-loop-step l = map header_of l.way ≡ map header_of l.out.items ++ map header_of (drop l.step-index l.way)
