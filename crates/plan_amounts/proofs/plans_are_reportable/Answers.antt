use Rattle.plan_amounts.proofs.Amounts.{reportable}
use Rattle.plan_amounts.proofs.plans_are_reportable.Goals as goal

pub returns : goal.returns
returns c = reportable
