use Rattle.std.proofs.Common.{◌≡◌, drop}
use Rattle.affine_expr.specs.Bounded.{ranges}
use Rattle.place_intervals.specs.Places.{subscripts_fit}
use Rattle.place_intervals.proofs.interval.subscripts_fit.Given as goal

abbrev pub invariant-loop-number : goal.invariant-loop-number
invariant-loop-number l = subscripts_fit (ranges l.subscripts) (ranges l.places) ≡ subscripts_fit (ranges (drop l.number l.subscripts)) (ranges (drop l.number l.places))
