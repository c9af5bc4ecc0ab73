use Rattle.std.proofs.Common.{◌≡◌, drop}
use Rattle.std.specs.List.{list_all}
use Rattle.affine_ast.specs.Rules.{row_pure}
use Rattle.shape_rules.proofs.pure.set_pure.Given as goal

abbrev pub invariant-loop-row : goal.invariant-loop-row
invariant-loop-row l = list_all (row_pure) l.set.rows ≡ list_all (row_pure) (drop l.row-index l.set.rows)
