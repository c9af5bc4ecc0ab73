use Rattle.std.proofs.Common.{◌≡◌, ◌++◌, map, drop}
use Rattle.affine_expr.specs.Bounded.{ranges}
use Rattle.module_work.specs.Table.{ranges_of}
use Rattle.nest_domain.specs.Ways.{loop_names}
use Rattle.nest_domain.specs.Steps.{header_of}
use Rattle.access_region.proofs.gather.add_loop_ranges.Given as goal

abbrev pub invariant-loop-step : goal.invariant-loop-step
invariant-loop-step l = ranges l.initial.out.items ++ map (ranges_of l.table.entries) (loop_names (map header_of l.way)) ≡ ranges l.out.items ++ map (ranges_of l.table.entries) (loop_names (map header_of (drop l.step-index l.way)))
