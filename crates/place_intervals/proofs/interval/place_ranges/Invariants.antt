use Rattle.std.proofs.Common.{◌≡◌, drop}
use Rattle.affine_expr.specs.Bounded.{ranges}
use Rattle.place_intervals.specs.Places.{place_ranges}
use Rattle.place_intervals.proofs.FormRanges.{before}
use Rattle.place_intervals.proofs.interval.place_ranges.Given as goal

abbrev pub invariant-loop-number : goal.invariant-loop-number
invariant-loop-number l = place_ranges (ranges l.intervals) l.sizes l.dims ≡ before (ranges l.places.items) (place_ranges (ranges l.intervals) (drop l.number l.sizes) (drop l.number l.dims))
