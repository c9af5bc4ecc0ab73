use Rattle.std.proofs.Common.{◌≡◌, ◌≤◌, drop}
use Rattle.std.specs.Prelude.{sum_by}
use Rattle.std.specs.List.{list_all}
use Rattle.plan_laws.specs.Limits.{row_fits, row_operands}
use Rattle.text_limits.specs.Capped.{measured, with_measure}
use Rattle.text_limits.proofs.measures.of_each_row.Given as goal

abbrev pub invariant-loop-row : goal.invariant-loop-row
invariant-loop-row l = record {
  same : measured (sum_by row_operands l.rows) (list_all row_fits l.rows) ≡ with_measure l.measure (measured (sum_by row_operands (drop l.row-index l.rows)) (list_all row_fits (drop l.row-index l.rows)));
  within : l.measure.operands ≤ 18446744073709551615;
}
