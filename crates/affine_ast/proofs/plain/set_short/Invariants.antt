use Rattle.std.proofs.Common.{◌≡◌, drop}
use Rattle.std.specs.List.{list_all}
use Rattle.affine_ast.specs.PlainLimits.{row_short}
use Rattle.affine_ast.proofs.plain.set_short.Given as goal

abbrev pub invariant-loop-row : goal.invariant-loop-row
invariant-loop-row l = list_all row_short l.set.rows ≡ list_all row_short (drop l.row-index l.set.rows)
