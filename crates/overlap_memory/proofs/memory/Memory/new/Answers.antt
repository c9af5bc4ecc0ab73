use Rattle.std.proofs.Common.{refl, arith}
use Rattle.overlap_memory.proofs.Begins.{tied_at_first}
use Rattle.overlap_memory.proofs.memory.Memory.new.Goals as goal

pub returns : goal.returns
returns c = λ y first.
    let w = c.requires.seat in
    tied_at_first c.args.bus.now _ w.0 y w.1 c.requires.helper w.2 w.3 c.in_ok-with_capacity.ensures.items (omega (arith, c.in_ok-with_capacity.ensures.exact, c.tags.ensures)) refl c.requires.halves c.requires.whole first
