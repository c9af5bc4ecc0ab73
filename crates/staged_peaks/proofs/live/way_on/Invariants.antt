use Rattle.std.proofs.Common.{◌≡◌, ◌++◌, take, drop, map}
use Rattle.staged_peaks.specs.Living.{entered, kept_of}
use Rattle.staged_peaks.proofs.live.way_on.Given as goal

abbrev pub invariant-loop-steps : goal.invariant-loop-steps
invariant-loop-steps l = l.new ≡ take (kept_of l.common l.way l.lengths) l.way ++ map entered (take l.steps-index (drop (kept_of l.common l.way l.lengths) l.lengths))
