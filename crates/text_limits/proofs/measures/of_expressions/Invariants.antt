use Rattle.std.proofs.Common.{◌≡◌, ◌≤◌, drop}
use Rattle.std.specs.Prelude.{sum_by}
use Rattle.std.specs.List.{list_all}
use Rattle.affine_ast.specs.PlainLimits.{operand_count}
use Rattle.plan_laws.specs.Limits.{expression_fits}
use Rattle.text_limits.specs.Capped.{measured, with_measure}
use Rattle.text_limits.proofs.measures.of_expressions.Given as goal

abbrev pub invariant-loop-expr : goal.invariant-loop-expr
invariant-loop-expr l = record {
  same : measured (sum_by operand_count l.exprs) (list_all expression_fits l.exprs) ≡ with_measure l.measure (measured (sum_by operand_count (drop l.expr-index l.exprs)) (list_all expression_fits (drop l.expr-index l.exprs)));
  within : l.measure.operands ≤ 18446744073709551615;
}
