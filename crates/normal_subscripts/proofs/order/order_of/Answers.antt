use Rattle.normal_subscripts.proofs.Orders.{order_next}
use Rattle.normal_subscripts.proofs.order.order_of.Goals as goal

pub loop-expr-preserved : goal.loop-expr-preserved
loop-expr-preserved c =
    order_next c.args.exprs.now c.loop-expr.expr-index c.expr-item.result c.loop-expr.order c.add_dims.new.seen _ c.loop-expr-test.true c.expr-item.is c.in_ok-add_dims.ensures c.loop-expr.invariant
