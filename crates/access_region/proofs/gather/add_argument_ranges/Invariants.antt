use Rattle.std.proofs.Common.{◌≡◌, ◌++◌, map, drop}
use Rattle.affine_expr.specs.Bounded.{ranges}
use Rattle.module_work.specs.Table.{ranges_of}
use Rattle.nest_domain.specs.Domains.{symbol_names}
use Rattle.access_region.proofs.gather.add_argument_ranges.Given as goal

abbrev pub invariant-loop-arg : goal.invariant-loop-arg
invariant-loop-arg l = ranges l.initial.out.items ++ map (ranges_of l.table.entries) (symbol_names l.args) ≡ ranges l.out.items ++ map (ranges_of l.table.entries) (symbol_names (drop l.arg-index l.args))
