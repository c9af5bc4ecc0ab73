use Rattle.std.proofs.Common.{◌≡◌, ◌<◌, ◌+◌, length, drop, true}
use Rattle.access_region.specs.Widening.{sides, all_whole}
use Rattle.access_region.proofs.widening.last_partial.Given as goal

abbrev pub invariant-loop-at : goal.invariant-loop-at
invariant-loop-at l = (l.at < length l.dims) × (all_whole (sides (drop (l.at + 1) l.dims) (drop (l.at + 1) l.sizes)) ≡ true)

abbrev pub decreases-loop-at : goal.decreases-loop-at
decreases-loop-at l = l.at
