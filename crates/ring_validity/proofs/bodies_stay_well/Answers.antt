use Rattle.ring_validity.proofs.Several.{bodies_well}
use Rattle.ring_validity.proofs.bodies_stay_well.Goals as goal

pub returns : goal.returns
returns c = bodies_well
