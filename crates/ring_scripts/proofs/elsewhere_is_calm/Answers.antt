use Rattle.ring_scripts.proofs.Calm.{elsewhere_is_calm}
use Rattle.ring_scripts.proofs.elsewhere_is_calm.Goals as goal

pub returns : goal.returns
returns c = elsewhere_is_calm
