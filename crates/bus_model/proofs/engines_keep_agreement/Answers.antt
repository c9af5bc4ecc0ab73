use Rattle.bus_model.proofs.Orders.{keep_agreement}
use Rattle.bus_model.proofs.engines_keep_agreement.Goals as goal

pub returns : goal.returns
returns c = keep_agreement
