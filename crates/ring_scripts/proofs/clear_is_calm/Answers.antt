use Rattle.ring_scripts.proofs.Turns.{clear_is_calm}
use Rattle.ring_scripts.proofs.clear_is_calm.Goals as goal

pub returns : goal.returns
returns c = clear_is_calm
