use Rattle.std.proofs.Common.{◌≡◌, drop}
use Rattle.std.specs.List.{list_all}
use Rattle.affine_expr.specs.Pure.{has_leaves_below}
use Rattle.shape_rules.proofs.shapes.have_leaves_below.Given as goal

abbrev pub invariant-loop-expr : goal.invariant-loop-expr
invariant-loop-expr l = list_all (has_leaves_below l.dims l.syms) l.exprs ≡ list_all (has_leaves_below l.dims l.syms) (drop l.expr-index l.exprs)
