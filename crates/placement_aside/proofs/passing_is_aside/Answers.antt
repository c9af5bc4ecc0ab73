use Rattle.placement_aside.proofs.Apart.{passing_is_aside}
use Rattle.placement_aside.proofs.passing_is_aside.Goals as goal

pub returns : goal.returns
returns c = passing_is_aside
