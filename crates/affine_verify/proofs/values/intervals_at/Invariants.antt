use Rattle.std.proofs.Common.{◌≡◌, take, drop, map, true, length}
use Rattle.std.specs.List.{list_all}
use Rattle.affine_expr.specs.Bounded.{ranges}
use Rattle.affine_expr.specs.Pure.{is_pure, has_leaves_below}
use Rattle.affine_expr.specs.Spread.{range_of}
use Rattle.affine_ast.specs.Rules.{has_interval}
use Rattle.affine_verify.proofs.values.intervals_at.Given as goal

abbrev pub invariant-loop-expr : goal.invariant-loop-expr
invariant-loop-expr l = record {
  found : ranges l.intervals.items ≡ map (range_of (ranges l.dims) (ranges l.syms)) (take l.expr-index l.exprs);
  pure : list_all is_pure (drop l.expr-index l.exprs) ≡ true;
  leaves : list_all (has_leaves_below (length l.dims) (length l.syms)) (drop l.expr-index l.exprs) ≡ true;
  bounded : list_all (has_interval (ranges l.dims) (ranges l.syms)) (drop l.expr-index l.exprs) ≡ true;
}
