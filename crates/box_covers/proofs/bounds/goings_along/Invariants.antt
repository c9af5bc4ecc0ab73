use Rattle.std.proofs.Common.{◌≡◌, drop, map}
use Rattle.nest_domain.specs.Steps.{header_of}
use Rattle.box_covers.specs.Traced.{goings, traced}
use Rattle.box_covers.specs.Told.{traced_of, behind_goings}
use Rattle.box_covers.proofs.bounds.goings_along.Given as goal

abbrev pub invariant-loop-step : goal.invariant-loop-step
invariant-loop-step l =
    (goings (map header_of l.inner) (traced_of l.initial.known) ≡ behind_goings l.goings.items (goings (map header_of (drop l.step-index l.inner)) (traced_of l.known)))
    × (traced (map header_of l.inner) (traced_of l.initial.known) ≡ traced (map header_of (drop l.step-index l.inner)) (traced_of l.known))
