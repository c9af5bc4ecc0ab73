use Rattle.std.proofs.Common.{arith}
use Rattle.affine_ast.specs.PlainLimits.{operand_count}
use Rattle.plan_laws.specs.Limits.{expression_fits}
use Rattle.text_limits.proofs.Tallied.{measure_end}
use Rattle.text_limits.proofs.measures.of_expressions.Goals as goal

pub returns : goal.returns
returns c = measure_end operand_count expression_fits c.args.exprs.now c.loop-expr.expr-index c.loop-expr.measure _ (omega arith) c.loop-expr.invariant.within c.loop-expr.invariant.same
