use Rattle.ring_validity.proofs.Valid.{well_is_valid}
use Rattle.ring_validity.proofs.well_is_valid.Goals as goal

pub returns : goal.returns
returns c = well_is_valid
