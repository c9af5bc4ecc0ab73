use Rattle.order_engines.proofs.Kept.{finish_told, finish_kept}
use Rattle.order_engines.proofs.flights.Flights.finish.Goals as goal

pub returns-clause-finishes : goal.returns-clause-finishes
returns-clause-finishes c = finish_told c.args.self.now c.as_mut_slice.result.now c.finish.new.flights c.as_mut_slice.ensures.value c.finish.auto.flights c.finish.result c.args.engines c.args.engine c.finish.ensures

pub returns-clause-kept : goal.returns-clause-kept
returns-clause-kept c = λ slow k. finish_kept c.args.self.now c.as_mut_slice.result.now c.finish.new.flights c.as_mut_slice.ensures.value c.finish.auto.flights c.finish.result c.args.engines c.args.engine slow
    (finish_told c.args.self.now c.as_mut_slice.result.now c.finish.new.flights c.as_mut_slice.ensures.value c.finish.auto.flights c.finish.result c.args.engines c.args.engine c.finish.ensures) k
