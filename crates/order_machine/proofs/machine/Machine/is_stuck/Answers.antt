use Rattle.std.proofs.Common.{◌∙◌, sym, ap}
use Rattle.order_engines.specs.Flying.{flights_of}
use Rattle.order_machine.specs.Standing.{stuck, left_of}
use Rattle.order_machine.proofs.machine.Machine.is_stuck.Goals as goal

pub returns-in-Some : goal.returns-in-Some
returns-in-Some c = c.holds_up.ensures ∙ ap (λ o. stuck (left_of o c.args.self.now.walk) (flights_of c.args.self.now.memory.flights.flying.items)) (sym c.in-Some.is)

pub returns-in-None : goal.returns-in-None
returns-in-None c = ap (λ o. stuck (left_of o c.args.self.now.walk) (flights_of c.args.self.now.memory.flights.flying.items)) (sym c.in-None.is)
