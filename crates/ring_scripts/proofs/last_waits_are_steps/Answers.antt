use Rattle.ring_scripts.proofs.Outward.{last_waits_are_steps}
use Rattle.ring_scripts.proofs.last_waits_are_steps.Goals as goal

pub returns : goal.returns
returns c = last_waits_are_steps
