use Rattle.std.proofs.Common.{◌≡◌, ◌≤◌, length, drop}
use Rattle.access_region.specs.Widening.{sides, shape}
use Rattle.access_region.proofs.widening.shape_of.Given as goal

abbrev pub invariant-loop-left : goal.invariant-loop-left
invariant-loop-left l = (l.left ≤ length l.dims) × (shape (sides (drop l.left l.dims) (drop l.left l.sizes)) ≡ l.shape)

abbrev pub decreases-loop-left : goal.decreases-loop-left
decreases-loop-left l = l.left
