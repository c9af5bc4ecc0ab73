use Rattle.std.proofs.Common.{refl}
use Rattle.order_engines.proofs.Starts.{collected, collected_at}
use Rattle.order_engines.proofs.flights.Flights.collect.Goals as goal

pub returns-clause-collected : goal.returns-clause-collected
returns-clause-collected c = collected_at c.args.self.now c.as_slice.result.now c.as_slice.ensures.value c.args.tag c.in-Some.place c.in-Some.ensures.0 c.remove.result c.in-Some.ensures.1 c.remove.ensures.value c.remove.new.self.items c.remove.ensures.items

pub returns-clause-kept : goal.returns-clause-kept
returns-clause-kept c = λ slow k. collected slow c.args.self.now _ c.args.tag c.requires.finished
    (collected_at c.args.self.now c.as_slice.result.now c.as_slice.ensures.value c.args.tag c.in-Some.place c.in-Some.ensures.0 c.remove.result c.in-Some.ensures.1 c.remove.ensures.value c.remove.new.self.items c.remove.ensures.items).1
    refl k
