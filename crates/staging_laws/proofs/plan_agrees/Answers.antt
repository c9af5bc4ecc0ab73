use Rattle.staging_laws.proofs.Plan.{plan_agrees}
use Rattle.staging_laws.proofs.plan_agrees.Goals as goal

pub returns : goal.returns
returns c = plan_agrees
