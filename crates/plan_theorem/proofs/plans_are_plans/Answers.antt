use Rattle.plan_theorem.proofs.Theorem.{plans_are_plans}
use Rattle.plan_theorem.proofs.plans_are_plans.Goals as goal

pub returns : goal.returns
returns c = plans_are_plans
