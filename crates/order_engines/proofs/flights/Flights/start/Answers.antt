use Rattle.std.proofs.Common.{ap, ◌∙◌, arith}
use Rattle.order_engines.specs.Flying.{flights_of}
use Rattle.order_engines.proofs.Starts.{not_waiting, flights_behind, started}
use Rattle.order_engines.proofs.flights.Flights.start.Goals as goal

pub put_in-requires-clause-others : goal.put_in-requires-clause-others
put_in-requires-clause-others c = not_waiting (flights_of c.args.self.now.flying.items) c.args.self.now.waiting.items c.args.transfer.tag c.requires.kept.1.waiting c.requires.idle

pub push_reserved-requires : goal.push_reserved-requires
push_reserved-requires c = let e = c.args.self.now.flying.ok.0 in omega (arith, e, c.requires.room)

pub returns-clause-flights : goal.returns-clause-flights
returns-clause-flights c = ap flights_of c.push_reserved.ensures.items ∙ flights_behind c.args.self.now.flying.items _

pub returns-clause-kept : goal.returns-clause-kept
returns-clause-kept c = λ slow flies k. started slow c.args.self.now _ c.args.transfer c.args.cells.items c.requires.idle
    (ap flights_of c.push_reserved.ensures.items ∙ flights_behind c.args.self.now.flying.items _)
    c.put_in.ensures.items flies k
