use Rattle.ring_samples.proofs.Numbers.{worked}
use Rattle.ring_samples.proofs.rings_are_worked.Goals as goal

pub returns : goal.returns
returns c = worked
