use Rattle.staged_plans.proofs.Theorem.{plans_agree}
use Rattle.staged_plans.proofs.plans_agree.Goals as goal

pub returns : goal.returns
returns c = plans_agree
