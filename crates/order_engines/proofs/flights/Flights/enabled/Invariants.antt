use Rattle.std.proofs.Common.{◌≡◌, ◌+◌, ◌-◌, ◌*◌, ◌^◌, ◌≤◌, length}
use Rattle.order_meaning.specs.Listed.{steps_from}
use Rattle.order_engines.specs.Flying.{flights_of}
use Rattle.order_engines.proofs.flights.Flights.enabled.Given as goal

abbrev pub invariant-loop-engine : goal.invariant-loop-engine
invariant-loop-engine l = record {
  counted : l.count + length (steps_from (flights_of l.self.flying.items) l.self.waiting.items l.engine (l.engines - l.engine)) ≡ length (steps_from (flights_of l.self.flying.items) l.self.waiting.items 0 l.engines);
  small : l.count ≤ l.engine * (2 ^ 31);
}
