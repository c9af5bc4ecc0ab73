use Rattle.std.proofs.Common.{rules, to_z-of_z}
use Rattle.int_ops.proofs.Results.{cast_is, cast_inside, cast_same}
use Rattle.int_ops.proofs.cast.Goals as goal

pub returns-clause-value : goal.returns-clause-value
returns-clause-value c = cast_is c.args.kind c.args.from c.args.to c.args.a c.read_operand.result _ c.requires.to c.requires.kind c.requires.inside (search (rules, to_z-of_z)) (search (rules, to_z-of_z))

pub returns-clause-inside : goal.returns-clause-inside
returns-clause-inside c = cast_inside c.args.to c.read_operand.result _ c.requires.to (search (rules, to_z-of_z))

pub returns-clause-same : goal.returns-clause-same
returns-clause-same c = cast_same c.args.kind c.args.from c.args.to c.args.a c.read_operand.result _ (search (rules, to_z-of_z)) (search (rules, to_z-of_z))
