use Rattle.std.proofs.Common.{length}
use Rattle.staged_peaks.proofs.live.+reached.Given as goal

abbrev pub decreases-reached : goal.decreases-reached
decreases-reached c = length c.way.now
