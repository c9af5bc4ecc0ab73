use Rattle.staged_peaks.proofs.Theorem.{more_at_a_loop}
use Rattle.staged_peaks.proofs.more_at_a_loop.Goals as goal

pub returns : goal.returns
returns c = more_at_a_loop
