use Rattle.plan_validity.proofs.Pass.{plans_pass}
use Rattle.plan_validity.proofs.plans_pass.Goals as goal

pub returns : goal.returns
returns c = plans_pass
