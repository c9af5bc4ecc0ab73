use Rattle.std.proofs.Common.{◌≤◌, drop, length}
use Rattle.planned_placements.specs.Carried.{IsCarried}
use Rattle.planned_placements.proofs.how.carried_box.Given as goal

abbrev pub invariant-loop-left : goal.invariant-loop-left
invariant-loop-left l = record {
  within : l.left ≤ length l.dims;
  inner : IsCarried (drop l.left l.dims) l.inner;
}

abbrev pub decreases-loop-left : goal.decreases-loop-left
decreases-loop-left l = l.left
