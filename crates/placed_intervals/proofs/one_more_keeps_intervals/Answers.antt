use Rattle.placed_intervals.proofs.Law.{one_more_keeps_intervals}
use Rattle.placed_intervals.proofs.one_more_keeps_intervals.Goals as goal

pub returns : goal.returns
returns c = one_more_keeps_intervals
