use Rattle.box_covers.proofs.Covered.{covered_is_swept}
use Rattle.box_covers.proofs.covered_is_swept.Goals as goal

pub returns : goal.returns
returns c = covered_is_swept
