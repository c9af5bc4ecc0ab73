use Rattle.std.proofs.Common.{arith}
use Rattle.fast_rooms.proofs.Sizes.{sizes_more}
use Rattle.prompt_meaning.proofs.fast.elements.Goals as goal

pub loop-size-preserved : goal.loop-size-preserved
loop-size-preserved c = sizes_more c.args.sizes.now c.loop-size.size-index c.loop-size.count c.in_ok-count.count (omega arith) c.in_ok-count.ensures.1 c.loop-size.invariant
