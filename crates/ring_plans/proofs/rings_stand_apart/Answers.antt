use Rattle.ring_plans.proofs.Apart.{rings_stand_apart}
use Rattle.ring_plans.proofs.rings_stand_apart.Goals as goal

pub returns : goal.returns
returns c = rings_stand_apart
