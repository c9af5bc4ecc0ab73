use Rattle.std.proofs.Common.{◌∙◌, sym, ap}
use Rattle.std.specs.Prelude.{Some, slice_get}
use Rattle.bus_model.specs.Engines.{flight_of}
use Rattle.order_meaning.specs.Machine.{holds_up}
use Rattle.order_engines.specs.declared.flying.Flying.{Flying}
use Rattle.order_engines.specs.Flying.{flight, flights_of}
use Rattle.order_engines.proofs.Places.{value_at}
use Rattle.order_memory.proofs.memory.Memory.holds_up.Goals as goal

pub returns-in-None : goal.returns-in-None
returns-in-None c = ap (λ o. holds_up o c.args.count) (sym (ap (λ fs. flight_of (flights_of fs) c.args.tag) (sym c.as_slice.ensures.value) ∙ c.in-None.ensures))

pub returns-in-Some : goal.returns-in-Some
returns-in-Some c =
    let f = c.in-Some.ensures.0 in
    let p = c.in-Some.ensures.1 in
    c.holds_up.ensures
    ∙ ap (λ (g : Flying). holds_up (Some (flight g)) c.args.count) (c.index.ensures ∙ value_at _ c.in-Some.place f _ (ap (λ fs. slice_get fs c.in-Some.place) (sym c.as_slice.ensures.value) ∙ p.at))
    ∙ ap (λ o. holds_up o c.args.count) (sym (ap (λ fs. flight_of (flights_of fs) c.args.tag) (sym c.as_slice.ensures.value) ∙ p.found))
