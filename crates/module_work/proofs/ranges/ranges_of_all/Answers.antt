use Rattle.module_work.specs.Table.{ranges_of}
use Rattle.module_work.proofs.Tables.{one_more}
use Rattle.module_work.proofs.ranges.ranges_of_all.Goals as goal

pub loop-name-preserved : goal.loop-name-preserved
loop-name-preserved c =
    one_more (ranges_of c.args.table.now.entries) c.args.names.now c.loop-name.name-index c.name-item.result c.loop-name.intervals.items c.push.new.self.items c.range_of.result
    c.loop-name-test.true c.name-item.is c.loop-name.invariant c.range_of.ensures c.in_ok-push.ensures.items
