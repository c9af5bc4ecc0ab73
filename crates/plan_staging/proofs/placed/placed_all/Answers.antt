use Rattle.std.proofs.Common.{length}
use Rattle.affine_ast.specs.Nest.{nest}
use Rattle.plan_staging.specs.Decided.{of_outcome}
use Rattle.plan_staging.proofs.Placing.{next_few, next_placed, next_written}
use Rattle.plan_staging.proofs.placed.placed_all.Goals as goal

pub loop-decision-preserved : goal.loop-decision-preserved
loop-decision-preserved c =
    let m = c.args.module.now.inner in
    let xs = c.loop-decision.placed.items in
    let new = c.add_placed.new.placed.items in
    let d = c.decision-item.result in
    let ss = of_outcome c.args.dma m.args (nest m.body) (length xs) d.memref d.outcome in
    record {
      few = next_few xs new ss c.loop-decision.decision-index c.loop-decision.invariant.few c.in_ok-add_placed.ensures;
      placed = next_placed c.args.dma m.args (nest m.body) c.args.decisions.now c.loop-decision.decision-index d xs new c.loop-decision-test.true c.decision-item.is c.loop-decision.invariant.placed c.in_ok-add_placed.ensures;
      written = next_written xs new ss c.loop-decision.invariant.written c.in_ok-add_placed.ensures;
    }
