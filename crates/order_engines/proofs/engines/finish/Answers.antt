use Rattle.std.proofs.Common.{set, sym, ap, ◌∙◌, subst, arith}
use Rattle.std.specs.Prelude.{None}
use Rattle.std.proofs.lemmas.List.{map-set}
use Rattle.bus_model.specs.Engines.{with_engine}
use Rattle.order_meaning.specs.Machine.{HasAll}
use Rattle.order_engines.specs.declared.flying.Flying.{Flying}
use Rattle.order_engines.specs.Flying.{flight, flights_of}
use Rattle.order_engines.proofs.Places.{value_at, own_place}
use Rattle.order_engines.proofs.engines.finish.Goals as goal

pub returns : goal.returns
returns c =
    let fs = c.args.flights.now in
    let k = c.in-Some.k in
    let f = c.in-Some.ensures.0 in
    let at = c.in-Some.ensures.1 in
    let held = c.in-Some.ensures.2 in
    let place = own_place fs k f c.requires at in
    let all = ap (λ (g : Flying). g.moved) (sym (value_at fs k f c.index-flights-k.result at)) ∙ c.if-flights-k.false ∙ ap (λ (g : Flying). g.transfer.count) (value_at fs k f c.index-flights-k-2.result at) in
    let less = c.if-engine-engines.false in (
      (omega (arith, less), subst HasAll (sym held) all),
      record {
        flight = flight f;
        held = held;
        changed = map-set flight fs k _
            ∙ ap (λ (g : Flying). set (flights_of fs) k (with_engine None (flight g))) (value_at fs k f c.index-flights-k-3.result at)
            ∙ sym (place.change (with_engine None));
      },
    )
