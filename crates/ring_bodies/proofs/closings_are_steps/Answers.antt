use Rattle.ring_bodies.proofs.Steps.{closings_are_steps}
use Rattle.ring_bodies.proofs.closings_are_steps.Goals as goal

pub returns : goal.returns
returns c = closings_are_steps
