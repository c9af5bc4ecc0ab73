use Rattle.plan_staging.proofs.Said.{plans_say_placements}
use Rattle.plan_staging.proofs.plans_say_placements.Goals as goal

pub returns : goal.returns
returns c = plans_say_placements
