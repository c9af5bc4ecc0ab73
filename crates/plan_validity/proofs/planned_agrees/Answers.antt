use Rattle.plan_validity.proofs.Pass.{planned_agrees}
use Rattle.plan_validity.proofs.planned_agrees.Goals as goal

pub returns : goal.returns
returns c = planned_agrees
