use Rattle.staged_peaks.proofs.Theorem.{one_placement_more}
use Rattle.staged_peaks.proofs.one_placement_more.Goals as goal

pub returns : goal.returns
returns c = one_placement_more
