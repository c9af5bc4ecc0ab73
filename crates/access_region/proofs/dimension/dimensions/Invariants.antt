use Rattle.std.proofs.Common.{◌≡◌, drop}
use Rattle.access_region.specs.Faults.{after}
use Rattle.access_region.specs.Regions.{dimensions}
use Rattle.access_region.proofs.dimension.dimensions.Given as goal

abbrev pub invariant-loop-dim : goal.invariant-loop-dim
invariant-loop-dim l = dimensions l.outside l.loops l.accesses 0 l.sizes ≡ after l.dims.items (dimensions l.outside l.loops l.accesses l.dim (drop l.dim l.sizes))
