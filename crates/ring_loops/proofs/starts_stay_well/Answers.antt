use Rattle.ring_loops.proofs.Starts.{starts_well}
use Rattle.ring_loops.proofs.starts_stay_well.Goals as goal

pub returns : goal.returns
returns c = starts_well
