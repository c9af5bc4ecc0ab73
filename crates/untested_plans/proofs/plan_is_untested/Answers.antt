use Rattle.untested_plans.proofs.Law.{plan_is_untested}
use Rattle.untested_plans.proofs.plan_is_untested.Goals as goal

pub returns : goal.returns
returns c = plan_is_untested
