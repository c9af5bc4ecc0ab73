use Rattle.planned_placements.proofs.Placeable.{regions_may_be_placed}
use Rattle.planned_placements.proofs.regions_may_be_placed.Goals as goal

pub returns : goal.returns
returns c = regions_may_be_placed
