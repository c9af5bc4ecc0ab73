use Rattle.ring_plans.proofs.Stay.{plain_plans_stay}
use Rattle.ring_plans.proofs.plain_plans_stay.Goals as goal

pub returns : goal.returns
returns c = plain_plans_stay
