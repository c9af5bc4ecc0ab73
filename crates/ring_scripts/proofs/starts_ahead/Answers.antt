use Rattle.ring_scripts.proofs.Starts.{starts_ahead}
use Rattle.ring_scripts.proofs.starts_ahead.Goals as goal

pub returns : goal.returns
returns c = starts_ahead
