use Rattle.ring_plans.proofs.Within.{keep_within}
use Rattle.ring_plans.proofs.rings_keep_within.Goals as goal

pub returns : goal.returns
returns c = keep_within
