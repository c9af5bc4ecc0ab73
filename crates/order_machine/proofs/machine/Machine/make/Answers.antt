use Rattle.std.proofs.Common.{refl, sym, subst}
use Rattle.order_machine.specs.Standing.{Makes}
use Rattle.order_machine.proofs.Moves.{take_made, move_made, finish_made}
use Rattle.order_machine.proofs.machine.Machine.make.Goals as goal

pub take-requires : goal.take-requires
take-requires c = let y = c.requires.stood in (_, _, y.2.tied)

pub move_next-requires : goal.move_next-requires
move_next-requires c = let y = c.requires.stood in (_, _, y.2.tied)

pub finish-requires : goal.finish-requires
finish-requires c = let y = c.requires.stood in (_, _, y.2.tied)

pub returns-in-Take-clause-made : goal.returns-in-Take-clause-made
returns-in-Take-clause-made c = λ s steps at. subst (λ st. Makes s steps st c.take.result (record c.args.self.now { memory = c.take.new.self })) (sym c.in-Take.is)
    (take_made s steps _ at c.requires.going (record c.args.self.now { memory = c.take.new.self }) refl refl refl refl refl refl refl refl c.take.ensures.registers c.in-Take.engine c.in-Take.tag c.take.result (c.take.ensures.takes _ _ at.tied))

pub returns-in-Move-clause-made : goal.returns-in-Move-clause-made
returns-in-Move-clause-made c = λ s steps at. subst (λ st. Makes s steps st c.move_next.result (record c.args.self.now { memory = c.move_next.new.self })) (sym c.in-Move.is)
    (move_made s steps _ at c.requires.going (record c.args.self.now { memory = c.move_next.new.self }) refl refl refl refl refl refl refl refl c.move_next.ensures.registers c.in-Move.engine c.move_next.result (c.move_next.ensures.moves _ _ at.tied))

pub returns-in-Finish-clause-made : goal.returns-in-Finish-clause-made
returns-in-Finish-clause-made c = λ s steps at. subst (λ st. Makes s steps st c.finish.result (record c.args.self.now { memory = c.finish.new.self })) (sym c.in-Finish.is)
    (finish_made s steps _ at c.requires.going (record c.args.self.now { memory = c.finish.new.self }) refl refl refl refl refl refl refl refl c.finish.ensures.registers c.in-Finish.engine c.finish.result (c.finish.ensures.finishes _ _ at.tied))
