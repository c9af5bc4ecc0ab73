use Rattle.plan_laws.proofs.Plans.{keep_within}
use Rattle.plan_laws.proofs.plans_keep_within.Goals as goal

pub returns : goal.returns
returns c = keep_within
