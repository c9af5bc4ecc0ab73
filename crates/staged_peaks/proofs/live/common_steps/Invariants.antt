use Rattle.std.proofs.Common.{◌≡◌, ◌+◌, ◌-◌, ◌≤◌, length, drop}
use Rattle.staged_peaks.specs.Living.{shared}
use Rattle.staged_peaks.proofs.live.common_steps.Given as goal

abbrev pub invariant-loop-count : goal.invariant-loop-count
invariant-loop-count l = (l.count ≤ length l.left) × (l.count ≤ length l.right) × (l.count + shared (drop l.count l.left) (drop l.count l.right) ≡ shared l.left l.right)

abbrev pub decreases-loop-count : goal.decreases-loop-count
decreases-loop-count l = length l.left - l.count
