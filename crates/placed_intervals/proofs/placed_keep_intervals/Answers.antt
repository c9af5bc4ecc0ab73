use Rattle.placed_intervals.proofs.Law.{placed_keep_intervals}
use Rattle.placed_intervals.proofs.placed_keep_intervals.Goals as goal

pub returns : goal.returns
returns c = placed_keep_intervals
