use Rattle.std.proofs.Common.{arith, pos}
use Rattle.place_intervals.proofs.FormRanges.{head_in, head_out}
use Rattle.place_intervals.proofs.interval.interval_at.Goals as goal

pub returns-then-place-intervals : goal.returns-then-place-intervals
returns-then-place-intervals c = head_in c.args.intervals.now c.args.place (record { least = pos 0; greatest = pos 0 }) (omega arith)

pub returns-else-place-intervals : goal.returns-else-place-intervals
returns-else-place-intervals c = head_out c.args.intervals.now c.args.place (omega arith)
