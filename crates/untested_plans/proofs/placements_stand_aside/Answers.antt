use Rattle.untested_plans.proofs.Law.{placements_stand_aside}
use Rattle.untested_plans.proofs.placements_stand_aside.Goals as goal

pub returns : goal.returns
returns c = placements_stand_aside
