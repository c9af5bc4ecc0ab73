use Rattle.plan_numbers.proofs.Rows.{plans}
use Rattle.plan_numbers.proofs.plans_are.Goals as goal

pub returns : goal.returns
returns c = plans
