use Rattle.std.proofs.Common.{◌≡◌, ◌-◌, ◌≤◌, ◌++◌, take, drop}
use Rattle.staged_peaks.specs.Living.{reach, raised}
use Rattle.staged_peaks.proofs.live.raise_round.Given as goal

abbrev pub invariant-loop-left : goal.invariant-loop-left
invariant-loop-left l =
    (l.left ≤ l.place) × (l.way ≡ take l.left l.initial.way ++ raised (l.place - l.left) 0 (drop l.left l.initial.way))
    × (l.inner ≡ reach (l.place - l.left) 0 (drop l.left l.initial.way))

abbrev pub decreases-loop-left : goal.decreases-loop-left
decreases-loop-left l = l.left
