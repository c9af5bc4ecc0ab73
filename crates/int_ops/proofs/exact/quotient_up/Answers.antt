use Rattle.std.proofs.Common.{rules}
use Rattle.int_ops.proofs.Quotients.{up_placed, up_small}
use Rattle.int_ops.proofs.exact.quotient_up.Goals as goal

pub returns-then-b-lt0-clause-placed : goal.returns-then-b-lt0-clause-placed
returns-then-b-lt0-clause-placed c = up_placed c.args.a c.args.b _ c.requires (search rules)

pub returns-then-b-lt0-clause-small : goal.returns-then-b-lt0-clause-small
returns-then-b-lt0-clause-small c = up_small c.args.a c.args.b _ c.ranges.a c.requires (search rules)
