use Rattle.std.proofs.Common.{◌≡◌, drop}
use Rattle.std.specs.List.{list_all}
use Rattle.affine_expr.specs.Pure.{is_pure}
use Rattle.shape_rules.proofs.pure.access_pure.Given as goal

abbrev pub invariant-loop-expr : goal.invariant-loop-expr
invariant-loop-expr l = list_all (is_pure) l.at.map.results ≡ list_all (is_pure) (drop l.expr-index l.at.map.results)
