use Rattle.std.proofs.Common.{◌-◌, ◌+◌, arith, ap, sym, ◌∙◌}
use Rattle.std.specs.Prelude.{slice_get}
use Rattle.order_meaning.specs.Machine.{held_by}
use Rattle.order_meaning.specs.Listed.{engine_steps, steps_from}
use Rattle.order_engines.specs.Flying.{flights_of}
use Rattle.order_engines.proofs.Waits.{steps_here, get_front, get_behind}
use Rattle.order_engines.proofs.flights.Flights.nth.Goals as goal

pub returns-then-left-own : goal.returns-then-left-own
returns-then-left-own c =
    let flights = flights_of c.args.self.now.flying.items in
    let tags = c.args.self.now.waiting.items in
    let own = engine_steps tags c.loop-engine.engine (held_by flights c.loop-engine.engine) in
    let rest = steps_from flights tags (c.loop-engine.engine + 1) (c.args.engines - (c.loop-engine.engine + 1)) in
    let below = c.if-left-own.true in
    c.step_of.ensures
    ∙ sym (get_front own rest c.loop-engine.left (omega (arith, below, c.steps_of-own.ensures)))
    ∙ sym (ap (λ l. slice_get l c.loop-engine.left) (steps_here flights tags c.loop-engine.engine c.args.engines c.loop-engine-test.true))
    ∙ c.loop-engine.invariant

pub loop-engine-preserved : goal.loop-engine-preserved
loop-engine-preserved c =
    let flights = flights_of c.args.self.now.flying.items in
    let tags = c.args.self.now.waiting.items in
    let own = engine_steps tags c.loop-engine.engine (held_by flights c.loop-engine.engine) in
    let rest = steps_from flights tags (c.loop-engine.engine + 1) (c.args.engines - (c.loop-engine.engine + 1)) in
    let past = c.if-left-own.false in
    sym (get_behind own rest c.loop-engine.left (c.loop-engine.left - c.steps_of-own.result) (omega (arith, past, c.steps_of-own.ensures)))
    ∙ sym (ap (λ l. slice_get l c.loop-engine.left) (steps_here flights tags c.loop-engine.engine c.args.engines c.loop-engine-test.true))
    ∙ c.loop-engine.invariant
