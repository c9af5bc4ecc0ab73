use Rattle.std.proofs.Common.{◌≡◌, drop}
use Rattle.affine_expr.specs.Bounded.{ranges}
use Rattle.place_intervals.specs.Places.{copies_fit}
use Rattle.place_intervals.proofs.interval.copies_fit.Given as goal

abbrev pub invariant-loop-number : goal.invariant-loop-number
invariant-loop-number l = copies_fit l.dims (ranges l.places) ≡ copies_fit (drop l.number l.dims) (ranges (drop l.number l.places))
