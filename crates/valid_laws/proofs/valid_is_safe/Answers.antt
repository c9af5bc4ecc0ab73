use Rattle.valid_laws.proofs.SafeStart.{valid_safe}
use Rattle.valid_laws.proofs.valid_is_safe.Goals as goal

pub returns : goal.returns
returns c = valid_safe
