use Rattle.std.proofs.Common.{◌≡◌, ◌+◌, ◌≤◌, map, drop}
use Rattle.nest_domain.specs.Steps.{header_of}
use Rattle.nest_domain.specs.Ways.{loop_count}
use Rattle.text_limits.specs.Adding.{condition_count}
use Rattle.placed_sites.proofs.placing.round_of.Given as goal

abbrev pub invariant-loop-step : goal.invariant-loop-step
invariant-loop-step l = record {
  loops : loop_count (map header_of l.way) ≡ l.round.loops + loop_count (map header_of (drop l.step-index l.way));
  ifs : condition_count (map header_of l.way) ≡ l.round.ifs + condition_count (map header_of (drop l.step-index l.way));
  few_loops : l.round.loops ≤ l.step-index;
  few_ifs : l.round.ifs ≤ l.step-index;
}
