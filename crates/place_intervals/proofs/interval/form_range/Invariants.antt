use Rattle.std.proofs.Common.{◌≡◌, drop}
use Rattle.std.specs.Prelude.{option_map}
use Rattle.affine_expr.specs.Bounded.{range_at, ranges}
use Rattle.place_intervals.specs.TermRanges.{form_range, form_from}
use Rattle.place_intervals.proofs.interval.form_range.Given as goal

abbrev pub invariant-loop-place : goal.invariant-loop-place
invariant-loop-place l = form_range l.coefs l.constant (ranges l.intervals) ≡ form_from (option_map range_at l.total) (drop l.place l.coefs) l.constant (drop l.place (ranges l.intervals))
