use Rattle.std.proofs.Common.{arith}
use Rattle.walk_program.proofs.Allocations.{product_step, product_end}
use Rattle.walk_program.proofs.counts.elements.Goals as goal

pub loop-size-preserved : goal.loop-size-preserved
loop-size-preserved c = product_step c.args.sizes.now c.loop-size.size-index c.loop-size.elements c.in-Some.product c.loop-size-test.true c.loop-size.invariant c.in-Some.ensures.1

pub returns : goal.returns
returns c = product_end c.args.sizes.now c.loop-size.size-index c.loop-size.elements (omega arith) c.loop-size.invariant
