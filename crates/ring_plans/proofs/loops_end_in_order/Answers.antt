use Rattle.ring_plans.proofs.Ends.{end_in_order}
use Rattle.ring_plans.proofs.loops_end_in_order.Goals as goal

pub returns : goal.returns
returns c = end_in_order
