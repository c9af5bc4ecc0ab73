use Rattle.std.proofs.Common.{rules}
use Rattle.int_ops.proofs.Quotients.{product_small}
use Rattle.int_ops.proofs.exact.product.Goals as goal

pub returns-clause-small : goal.returns-clause-small
returns-clause-small c = product_small c.args.a c.args.b _ c.ranges.a c.ranges.b (search rules)
