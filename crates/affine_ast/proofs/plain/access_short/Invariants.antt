use Rattle.std.proofs.Common.{◌≡◌, drop}
use Rattle.std.specs.List.{list_all}
use Rattle.affine_ast.specs.PlainLimits.{is_short}
use Rattle.affine_ast.proofs.plain.access_short.Given as goal

abbrev pub invariant-loop-expr : goal.invariant-loop-expr
invariant-loop-expr l = list_all is_short l.at.map.results ≡ list_all is_short (drop l.expr-index l.at.map.results)
