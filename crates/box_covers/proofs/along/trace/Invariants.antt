use Rattle.std.proofs.Common.{◌≡◌, drop, map}
use Rattle.nest_domain.specs.Steps.{header_of}
use Rattle.box_covers.specs.Traced.{traced}
use Rattle.box_covers.specs.Told.{traced_of}
use Rattle.box_covers.proofs.along.trace.Given as goal

abbrev pub invariant-loop-step : goal.invariant-loop-step
invariant-loop-step l = traced (map header_of l.way) (traced_of l.initial.known) ≡ traced (map header_of (drop l.step-index l.way)) (traced_of l.known)
