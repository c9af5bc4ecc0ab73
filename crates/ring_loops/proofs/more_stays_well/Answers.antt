use Rattle.ring_loops.proofs.Renamed.{more_well}
use Rattle.ring_loops.proofs.more_stays_well.Goals as goal

pub returns : goal.returns
returns c = more_well
