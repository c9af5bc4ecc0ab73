use Rattle.std.proofs.Common.{◌≡◌, drop, map}
use Rattle.nest_domain.specs.Steps.{header_of}
use Rattle.box_covers.specs.Covers.{unconditional}
use Rattle.box_covers.proofs.store.unconditional.Given as goal

abbrev pub invariant-loop-step : goal.invariant-loop-step
invariant-loop-step l = unconditional (map header_of l.way) ≡ unconditional (map header_of (drop l.step-index l.way))
