use Rattle.std.proofs.Common.{rules, to_z-of_z}
use Rattle.int_ops.proofs.Results.{fault_none, value_some, value_reduced}
use Rattle.int_ops.proofs.operation.Width.apply.Goals as goal

pub returns-then-is_divide_fault-clause-exact : goal.returns-then-is_divide_fault-clause-exact
returns-then-is_divide_fault-clause-exact g c = fault_none c.args.op g.row.N c.args.a c.args.b c.is_divide_fault.result (search (rules, to_z-of_z)) c.if-is_divide_fault.true

pub returns-clause-exact : goal.returns-clause-exact
returns-clause-exact g c = value_some c.args.op g.row.N c.args.a c.args.b c.is_divide_fault.result c.exact_value.result _ (search (rules, to_z-of_z)) c.if-is_divide_fault.false (search (rules, to_z-of_z)) (search (rules, to_z-of_z))

pub returns-clause-reduced : goal.returns-clause-reduced
returns-clause-reduced g c = value_reduced c.args.op g.row.N c.args.a c.args.b c.exact_value.result _ c.requires.width (search (rules, to_z-of_z)) (search (rules, to_z-of_z))
