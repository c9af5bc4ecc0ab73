use Rattle.staged_peaks.proofs.Living.{fresh_live}
use Rattle.staged_peaks.proofs.live.Live.new.Goals as goal
use Rattle.std.proofs.Common.{refl}

pub returns : goal.returns
returns c n = fresh_live n _ c.new.ensures refl
