use Rattle.ring_bodies.proofs.Steps.{openings_are_steps}
use Rattle.ring_bodies.proofs.openings_are_steps.Goals as goal

pub returns : goal.returns
returns c = openings_are_steps
