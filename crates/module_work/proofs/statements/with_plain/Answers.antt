use Rattle.module_work.specs.Table.{ranges_of}
use Rattle.module_work.proofs.Works.{plain_steps}
use Rattle.module_work.proofs.statements.with_plain.Goals as goal

pub returns-clause-steps : goal.returns-clause-steps
returns-clause-steps c = λ line. plain_steps c.args.total c.in_ok-work.work c.sum.result line c.args.what.now (ranges_of c.args.ranges.now.entries) (ranges_of c.plain.new.ranges.entries) c.requires.region c.in_ok-work.ensures.does c.sum.ensures
