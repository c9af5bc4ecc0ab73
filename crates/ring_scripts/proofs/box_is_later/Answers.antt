use Rattle.ring_scripts.proofs.Later.{box_is_later}
use Rattle.ring_scripts.proofs.box_is_later.Goals as goal

pub returns : goal.returns
returns c = box_is_later
