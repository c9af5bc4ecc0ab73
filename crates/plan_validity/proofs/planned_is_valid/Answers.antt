use Rattle.plan_validity.proofs.Pass.{planned_is_valid}
use Rattle.plan_validity.proofs.planned_is_valid.Goals as goal

pub returns : goal.returns
returns c = planned_is_valid
