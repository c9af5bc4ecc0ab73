use Rattle.std.proofs.Common.{◌≡◌, take, map}
use Rattle.affine_expr.specs.Bounded.{ranges}
use Rattle.module_work.specs.Table.{ranges_of}
use Rattle.module_work.proofs.ranges.ranges_of_all.Given as goal

abbrev pub invariant-loop-name : goal.invariant-loop-name
invariant-loop-name l = ranges l.intervals.items ≡ map (ranges_of l.table.entries) (take l.name-index l.names)
