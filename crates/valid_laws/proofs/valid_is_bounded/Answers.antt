use Rattle.valid_laws.proofs.Reach.{valid_bounded}
use Rattle.valid_laws.proofs.valid_is_bounded.Goals as goal

pub returns : goal.returns
returns c = valid_bounded
