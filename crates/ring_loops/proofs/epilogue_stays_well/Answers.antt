use Rattle.ring_loops.proofs.Twins.{epilogue_well}
use Rattle.ring_loops.proofs.epilogue_stays_well.Goals as goal

pub returns : goal.returns
returns c = epilogue_well
