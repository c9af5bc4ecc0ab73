use Rattle.ring_scripts.proofs.Calm.{no_clash_is_calm}
use Rattle.ring_scripts.proofs.no_clash_is_calm.Goals as goal

pub returns : goal.returns
returns c = no_clash_is_calm
