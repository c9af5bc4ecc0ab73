use Rattle.valid_laws.proofs.Evaluated.{valid_evaluable}
use Rattle.valid_laws.proofs.valid_is_evaluable.Goals as goal

pub returns : goal.returns
returns c = valid_evaluable
