use Rattle.ring_scripts.proofs.Ahead.{starts_are_steps}
use Rattle.ring_scripts.proofs.starts_are_steps.Goals as goal

pub returns : goal.returns
returns c = starts_are_steps
