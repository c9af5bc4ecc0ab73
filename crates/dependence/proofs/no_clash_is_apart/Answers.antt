use Rattle.dependence.proofs.Apart.{no_clash_is_apart}
use Rattle.dependence.proofs.no_clash_is_apart.Goals as goal

pub returns : goal.returns
returns c = no_clash_is_apart
