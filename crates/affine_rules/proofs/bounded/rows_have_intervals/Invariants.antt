use Rattle.std.proofs.Common.{◌≡◌, drop, true, length}
use Rattle.std.specs.List.{list_all}
use Rattle.affine_expr.specs.Bounded.{ranges}
use Rattle.affine_ast.specs.Rules.{row_pure, row_has_leaves, row_bounded}
use Rattle.affine_rules.proofs.bounded.rows_have_intervals.Given as goal

abbrev pub invariant-loop-row : goal.invariant-loop-row
invariant-loop-row l = record {
  found : list_all (row_bounded (ranges l.dims) (ranges l.syms)) l.rows ≡ list_all (row_bounded (ranges l.dims) (ranges l.syms)) (drop l.row-index l.rows);
  pure : list_all row_pure (drop l.row-index l.rows) ≡ true;
  leaves : list_all (row_has_leaves (length l.dims) (length l.syms)) (drop l.row-index l.rows) ≡ true;
}
