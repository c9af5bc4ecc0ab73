use Rattle.order_meaning.proofs.Listed.{lists_enabled}
use Rattle.order_meaning.proofs.lists_enabled.Goals as goal

pub returns : goal.returns
returns c = lists_enabled
