use Rattle.std.proofs.Common.{◌≡◌, drop}
use Rattle.std.specs.Prelude.{fold}
use Rattle.direct_meaning.specs.Work.{arg_ranges}
use Rattle.module_work.specs.Table.{ranges_of}
use Rattle.module_work.proofs.total.arguments.Given as goal

abbrev pub invariant-loop-arg : goal.invariant-loop-arg
invariant-loop-arg l = fold arg_ranges (ranges_of l.initial.ranges.entries) l.args ≡ fold arg_ranges (ranges_of l.ranges.entries) (drop l.arg-index l.args)
