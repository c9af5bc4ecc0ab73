use Rattle.ring_plans.proofs.Stay.{placements_stay}
use Rattle.ring_plans.proofs.placements_stay.Goals as goal

pub returns : goal.returns
returns c = placements_stay
