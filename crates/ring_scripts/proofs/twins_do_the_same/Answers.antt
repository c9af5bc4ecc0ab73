use Rattle.ring_scripts.proofs.Twins.{twins_do_the_same}
use Rattle.ring_scripts.proofs.twins_do_the_same.Goals as goal

pub returns : goal.returns
returns c = twins_do_the_same
