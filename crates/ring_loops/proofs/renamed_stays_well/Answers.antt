use Rattle.ring_loops.proofs.Renamed.{renamed_well}
use Rattle.ring_loops.proofs.renamed_stays_well.Goals as goal

pub returns : goal.returns
returns c = renamed_well
