use Rattle.walk_program.proofs.Allocations.{counts-For, condition_counts, plain_counts}
use Rattle.walk_program.proofs.statement.Statement.counts.Goals as goal

pub returns-in-For : goal.returns-in-For
returns-in-For c = counts-For c.args.self.now _ _ _ _ _ _ c.in-For.is

pub returns-in-If : goal.returns-in-If
returns-in-If c = condition_counts c.and.result c.args.self.now _ _ _ _ _ _ c.in-If.is c.and.ensures.fasts c.and.ensures.tags

pub returns-in-Plain : goal.returns-in-Plain
returns-in-Plain c = plain_counts c.counts_of_plain.result c.args.self.now _ c.in-Plain.is c.counts_of_plain.ensures
