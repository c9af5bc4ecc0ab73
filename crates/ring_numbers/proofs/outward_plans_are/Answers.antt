use Rattle.ring_numbers.proofs.Outward.{outward_plans}
use Rattle.ring_numbers.proofs.outward_plans_are.Goals as goal

pub returns : goal.returns
returns c = outward_plans
