use Rattle.std.proofs.Common.{◌≡◌, ◌+◌, map, drop}
use Rattle.nest_domain.specs.Ways.{loop_count}
use Rattle.nest_domain.specs.Steps.{header_of}
use Rattle.box_covers.proofs.along.with_loops.Given as goal

abbrev pub invariant-loop-step : goal.invariant-loop-step
invariant-loop-step l = l.number + loop_count (map header_of l.way) ≡ l.count + loop_count (map header_of (drop l.step-index l.way))
