use Rattle.order_meaning.proofs.Listed.{lists_one}
use Rattle.order_meaning.proofs.lists_one.Goals as goal

pub returns : goal.returns
returns c = lists_one
