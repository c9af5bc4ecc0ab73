use Rattle.std.proofs.Common.{arith}
use Rattle.affine_ast.specs.Sizes.{product}
use Rattle.shape_rules.proofs.Products.{capped_step, positive_step, capped_end}
use Rattle.shape_rules.proofs.shapes.elements.Goals as goal

pub loop-size-preserved : goal.loop-size-preserved
loop-size-preserved c = record {
  so_far = capped_step c.args.sizes.now c.loop-size.size-index c.loop-size.elements c.times-elements.result (product c.args.sizes.now) 16777217 c.loop-size-test.true c.loop-size.invariant.positive c.times-elements.ensures c.loop-size.invariant.so_far;
  small = omega (arith, c.times-elements.ensures);
  positive = positive_step c.args.sizes.now c.loop-size.size-index c.loop-size-test.true c.loop-size.invariant.positive;
}

pub returns : goal.returns
returns c = capped_end c.args.sizes.now c.loop-size.size-index c.loop-size.elements (product c.args.sizes.now) 16777217 (omega arith) c.loop-size.invariant.small c.loop-size.invariant.so_far
