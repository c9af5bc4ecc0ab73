use Rattle.std.proofs.Common.{◌≡◌, ◌-◌, length}
use Rattle.access_region.specs.Widening.{sides, widened_by}
use Rattle.access_region.proofs.widening.widen.Given as goal

abbrev pub invariant-loop-turn : goal.invariant-loop-turn
invariant-loop-turn l = (length l.dims ≡ length l.sizes) × (widened_by (length l.initial.dims) (sides l.initial.dims l.sizes) ≡ widened_by (length l.initial.dims - l._turn) (sides l.dims l.sizes))
