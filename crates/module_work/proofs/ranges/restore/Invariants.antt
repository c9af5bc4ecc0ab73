use Rattle.std.proofs.Common.{◌≡◌, vec_len}
use Rattle.module_work.specs.Table.{ranges_of, put_back}
use Rattle.module_work.proofs.ranges.restore.Given as goal

abbrev pub invariant-loop-name : goal.invariant-loop-name
invariant-loop-name l = put_back l.before.items (ranges_of l.ranges.entries) ≡ put_back l.fn.before.items (ranges_of l.fn.ranges.entries)

abbrev pub decreases-loop-name : goal.decreases-loop-name
decreases-loop-name l = vec_len l.before
