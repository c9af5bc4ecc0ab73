use Rattle.std.proofs.Common.{sym, subst, length}
use Rattle.order_engines.specs.Waiting.{IsFlights}
use Rattle.order_memory.proofs.Engines.{moves_as}
use Rattle.order_memory.proofs.memory.Memory.move_next.Goals as goal

pub move_next-requires : goal.move_next-requires
move_next-requires c = subst (λ l. IsFlights (length l) c.args.self.now.flights) (sym c.as_mut_slice.ensures.value) c.requires.2.fly

pub returns-clause-moves : goal.returns-clause-moves
returns-clause-moves c = λ rooms x t. moves_as rooms x c.args.self.now t c.args.engines c.args.engine c.as_mut_slice.result.now c.move_next.new.slow c.move_next.new.self c.as_mut_slice.ensures.value c.move_next.auto.slow
    c.move_next.ensures.room c.move_next.ensures.waiting_room c.move_next.result c.move_next.ensures.kept c.move_next.ensures.moves
