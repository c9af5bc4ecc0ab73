use Rattle.placement_texts.specs.Normal.{index_of, renumbered}
use Rattle.normal_subscripts.proofs.Results.{results_step}
use Rattle.normal_subscripts.proofs.access.results_in.Goals as goal

pub loop-expr-preserved : goal.loop-expr-preserved
loop-expr-preserved c =
    results_step (renumbered (λ n. index_of n c.args.order.now)) c.args.exprs.now c.loop-expr.expr-index c.expr-item.result c.in_ok-renumbered.field-0 c.loop-expr.made c.push.new.self
    c.loop-expr-test.true c.expr-item.is c.in_ok-renumbered.ensures c.in_ok-push.ensures.ok c.loop-expr.invariant
