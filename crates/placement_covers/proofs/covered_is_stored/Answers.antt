use Rattle.placement_covers.proofs.Stored.{covered_is_stored}
use Rattle.placement_covers.proofs.covered_is_stored.Goals as goal

pub returns : goal.returns
returns c = covered_is_stored
