use Rattle.std.proofs.Common.{◌≡◌, ◌++◌, drop}
use Rattle.placement_regions.specs.Sites.{dims_over}
use Rattle.planned_placements.proofs.dims.dims_over.Given as goal

abbrev pub invariant-loop-at : goal.invariant-loop-at
invariant-loop-at l = dims_over l.names l.region l.sizes ≡ l.dims ++ dims_over l.names (drop l.at l.region) (drop l.at l.sizes)
