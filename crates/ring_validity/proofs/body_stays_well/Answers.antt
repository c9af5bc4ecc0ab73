use Rattle.ring_validity.proofs.Ringed.{body_well}
use Rattle.ring_validity.proofs.body_stays_well.Goals as goal

pub returns : goal.returns
returns c = body_well
