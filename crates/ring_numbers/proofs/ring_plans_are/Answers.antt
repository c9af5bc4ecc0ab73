use Rattle.ring_numbers.proofs.Plans.{plans}
use Rattle.ring_numbers.proofs.ring_plans_are.Goals as goal

pub returns : goal.returns
returns c = plans
