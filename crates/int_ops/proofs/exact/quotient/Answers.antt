use Rattle.int_ops.proofs.Quotients.{computed_small}
use Rattle.int_ops.proofs.exact.quotient.Goals as goal

pub returns-clause-small : goal.returns-clause-small
returns-clause-small c = computed_small c.args.a c.args.b c.ranges.a c.ranges.b
