use Rattle.placement_covers.proofs.Theorem.{cover_carries}
use Rattle.placement_covers.proofs.cover_carries.Goals as goal

pub returns : goal.returns
returns c = cover_carries
