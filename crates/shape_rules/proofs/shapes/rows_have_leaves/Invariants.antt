use Rattle.std.proofs.Common.{◌≡◌, drop}
use Rattle.std.specs.List.{list_all}
use Rattle.affine_ast.specs.Rules.{row_has_leaves}
use Rattle.shape_rules.proofs.shapes.rows_have_leaves.Given as goal

abbrev pub invariant-loop-row : goal.invariant-loop-row
invariant-loop-row l = list_all (row_has_leaves l.dims l.syms) l.rows ≡ list_all (row_has_leaves l.dims l.syms) (drop l.row-index l.rows)
