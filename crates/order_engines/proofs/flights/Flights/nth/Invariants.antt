use Rattle.std.proofs.Common.{◌≡◌, ◌-◌}
use Rattle.std.specs.Prelude.{slice_get}
use Rattle.order_meaning.specs.Listed.{steps_from}
use Rattle.order_engines.specs.Flying.{flights_of}
use Rattle.order_engines.proofs.flights.Flights.nth.Given as goal

abbrev pub invariant-loop-engine : goal.invariant-loop-engine
invariant-loop-engine l = slice_get (steps_from (flights_of l.self.flying.items) l.self.waiting.items l.engine (l.engines - l.engine)) l.left ≡ slice_get (steps_from (flights_of l.self.flying.items) l.self.waiting.items 0 l.engines) l.fn.n
