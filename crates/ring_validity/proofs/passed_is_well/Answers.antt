use Rattle.ring_validity.proofs.Told.{passed_is_well}
use Rattle.ring_validity.proofs.passed_is_well.Goals as goal

pub returns : goal.returns
returns c = passed_is_well
