use Rattle.ring_numbers.proofs.Rings.{rings}
use Rattle.ring_numbers.proofs.rings_are.Goals as goal

pub returns : goal.returns
returns c = rings
