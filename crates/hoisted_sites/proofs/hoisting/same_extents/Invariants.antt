use Rattle.std.proofs.Common.{◌≡◌, drop, length}
use Rattle.plan_laws.specs.Plan.{same_extents}
use Rattle.hoisted_sites.proofs.hoisting.same_extents.Given as goal

abbrev pub invariant-loop-place : goal.invariant-loop-place
invariant-loop-place l = record {
  same : same_extents l.left l.right ≡ same_extents (drop l.place l.left) (drop l.place l.right);
  lengths : length l.left ≡ length l.right;
}
