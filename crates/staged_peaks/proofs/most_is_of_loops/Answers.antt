use Rattle.staged_peaks.proofs.Theorem.{most_is_of_loops}
use Rattle.staged_peaks.proofs.most_is_of_loops.Goals as goal

pub returns : goal.returns
returns c = most_is_of_loops
