use Rattle.valid_laws.proofs.Passing.{valid_affine}
use Rattle.valid_laws.proofs.valid_is_affine.Goals as goal

pub returns : goal.returns
returns c = valid_affine
