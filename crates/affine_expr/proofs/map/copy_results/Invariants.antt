use Rattle.std.proofs.Common.{◌≡◌, take}
use Rattle.affine_expr.proofs.map.copy_results.Given as goal

abbrev pub invariant-loop-expr : goal.invariant-loop-expr
invariant-loop-expr l = l.copies ≡ take l.expr-index l.results
