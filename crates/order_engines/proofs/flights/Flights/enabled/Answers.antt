use Rattle.std.proofs.Common.{◌-◌, ◌+◌, length, arith, ap, ◌∙◌}
use Rattle.order_meaning.specs.Machine.{held_by}
use Rattle.order_meaning.specs.Listed.{engine_steps, steps_from}
use Rattle.order_engines.specs.Flying.{flights_of}
use Rattle.order_engines.proofs.Waits.{steps_here, length_both, few_steps}
use Rattle.order_engines.proofs.flights.Flights.enabled.Goals as goal

pub overflow_add-count : goal.overflow_add-count
overflow_add-count c =
    let few = few_steps (flights_of c.args.self.now.flying.items) c.args.self.now.waiting.items c.loop-engine.engine c.requires in
    omega (arith, few, c.steps_of-count.ensures, c.loop-engine.invariant.small, c.ranges.engines)

pub loop-engine-preserved : goal.loop-engine-preserved
loop-engine-preserved c =
    let flights = flights_of c.args.self.now.flying.items in
    let tags = c.args.self.now.waiting.items in
    let few = few_steps flights tags c.loop-engine.engine c.requires in
    let here = ap length (steps_here flights tags c.loop-engine.engine c.args.engines c.loop-engine-test.true) ∙ length_both (engine_steps tags c.loop-engine.engine (held_by flights c.loop-engine.engine)) (steps_from flights tags (c.loop-engine.engine + 1) (c.args.engines - (c.loop-engine.engine + 1))) in record {
      counted = omega (arith, here, c.steps_of-count.ensures, c.loop-engine.invariant.counted);
      small = omega (arith, few, c.steps_of-count.ensures, c.loop-engine.invariant.small);
    }
