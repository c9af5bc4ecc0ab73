use Rattle.placement_regions.proofs.Theorem.{regions_are_sized}
use Rattle.placement_regions.proofs.regions_are_sized.Goals as goal

pub returns : goal.returns
returns c = regions_are_sized
