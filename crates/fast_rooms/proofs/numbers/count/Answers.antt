use Rattle.std.proofs.Common.{arith}
use Rattle.walk_actions.proofs.Cells.{elements_fit}
use Rattle.fast_rooms.proofs.numbers.count.Goals as goal

pub overflow_mul-count : goal.overflow_mul-count
overflow_mul-count c = omega (arith, elements_fit c.args.sizes.now c.loop-size.size-index c.loop-size.count c.requires.positive (omega arith) c.loop-size.invariant, c.requires.few)
