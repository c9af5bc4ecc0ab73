use Rattle.std.proofs.Common.{◌≡◌, ◌+◌, ◌-◌, ◌≤◌, length, drop}
use Rattle.staged_peaks.specs.Living.{kept_of}
use Rattle.staged_peaks.proofs.live.kept.Given as goal

abbrev pub invariant-loop-count : goal.invariant-loop-count
invariant-loop-count l = (l.count ≤ length l.way) × (l.count ≤ length l.lengths) × (l.count + kept_of l.common (drop l.count l.way) (drop l.count l.lengths) ≡ kept_of l.common l.way l.lengths)

abbrev pub decreases-loop-count : goal.decreases-loop-count
decreases-loop-count l = length l.way - l.count
