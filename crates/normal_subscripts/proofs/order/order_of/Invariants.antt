use Rattle.std.proofs.Common.{◌≡◌, [], drop}
use Rattle.std.specs.Prelude.{flat_map}
use Rattle.placement_texts.specs.Normal.{dims_of, firsts}
use Rattle.normal_subscripts.proofs.order.order_of.Given as goal

abbrev pub invariant-loop-expr : goal.invariant-loop-expr
invariant-loop-expr l = firsts [] (flat_map dims_of l.exprs) ≡ firsts l.order (flat_map dims_of (drop l.expr-index l.exprs))
