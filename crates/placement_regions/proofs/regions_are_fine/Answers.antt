use Rattle.placement_regions.proofs.Theorem.{regions_are_fine}
use Rattle.placement_regions.proofs.regions_are_fine.Goals as goal

pub returns : goal.returns
returns c = regions_are_fine
