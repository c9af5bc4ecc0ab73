use Rattle.order_engines.proofs.Kept.{kept_same, take_refused, take_told, take_kept}
use Rattle.order_engines.proofs.flights.Flights.take.Goals as goal

pub returns-then-not-take-clause-takes : goal.returns-then-not-take-clause-takes
returns-then-not-take-clause-takes c = take_refused c.args.self.now c.as_mut_slice.result.now c.take.new.flights c.as_mut_slice.ensures.value c.take.auto.flights c.args.engines c.args.engine c.args.tag c.if-not-take.ensures

pub returns-then-not-take-clause-kept : goal.returns-then-not-take-clause-kept
returns-then-not-take-clause-kept c = λ slow k. kept_same slow c.args.self.now _
    (take_refused c.args.self.now c.as_mut_slice.result.now c.take.new.flights c.as_mut_slice.ensures.value c.take.auto.flights c.args.engines c.args.engine c.args.tag c.if-not-take.ensures).1 k

pub returns-clause-takes : goal.returns-clause-takes
returns-clause-takes c = take_told c.args.self.now c.as_mut_slice.result.now c.take.new.flights c.as_mut_slice.ensures.value c.take.auto.flights c.args.engines c.args.engine c.args.tag c.if-not-take.ensures

pub returns-clause-kept : goal.returns-clause-kept
returns-clause-kept c = λ slow k. take_kept slow c.args.self.now _ c.args.engines c.args.engine c.args.tag
    (take_told c.args.self.now c.as_mut_slice.result.now c.take.new.flights c.as_mut_slice.ensures.value c.take.auto.flights c.args.engines c.args.engine c.args.tag c.if-not-take.ensures)
    c.leave_out.ensures.items k
