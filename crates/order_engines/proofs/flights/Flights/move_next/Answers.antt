use Rattle.std.proofs.Common.{sym, subst, length}
use Rattle.order_engines.specs.Flying.{flights_of, AllFlyWithin}
use Rattle.order_engines.proofs.Kept.{move_told, move_kept}
use Rattle.order_engines.proofs.flights.Flights.move_next.Goals as goal

pub move_next-requires-clause-within : goal.move_next-requires-clause-within
move_next-requires-clause-within c = subst (λ l. AllFlyWithin (length c.args.slow.now) (flights_of l)) (sym c.as_mut_slice.ensures.value) c.requires.fly

pub returns-clause-moves : goal.returns-clause-moves
returns-clause-moves c = move_told c.args.self.now c.as_mut_slice.result.now c.move_next.new.flights c.as_mut_slice.ensures.value c.move_next.auto.flights c.move_next.result c.args.engines c.args.engine c.args.slow.now c.move_next.new.slow c.move_next.ensures

pub returns-clause-kept : goal.returns-clause-kept
returns-clause-kept c = move_kept c.args.self.now c.as_mut_slice.result.now c.move_next.new.flights c.as_mut_slice.ensures.value c.move_next.auto.flights c.move_next.result c.args.engines c.args.engine c.args.slow.now c.move_next.new.slow c.move_next.auto.slow
    (move_told c.args.self.now c.as_mut_slice.result.now c.move_next.new.flights c.as_mut_slice.ensures.value c.move_next.auto.flights c.move_next.result c.args.engines c.args.engine c.args.slow.now c.move_next.new.slow c.move_next.ensures)
    c.requires
