use Rattle.ring_loops.proofs.SplitBounds.{split_well}
use Rattle.ring_loops.proofs.split_stays_well.Goals as goal

pub returns : goal.returns
returns c = split_well
