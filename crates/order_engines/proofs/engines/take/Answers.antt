use Rattle.std.proofs.Common.{◌≡◌, set, sym, ap, ◌∙◌, subst, arith}
use Rattle.std.specs.Prelude.{Some, None}
use Rattle.std.proofs.lemmas.List.{map-set}
use Rattle.bus_model.specs.Engines.{with_engine}
use Rattle.order_meaning.specs.Machine.{held_by, CanBeTaken}
use Rattle.order_engines.specs.declared.flying.Flying.{Flying}
use Rattle.order_engines.specs.Flying.{flight, flights_of}
use Rattle.order_engines.proofs.Places.{value_at, none_left, none_found}
use Rattle.order_engines.proofs.engines.take.Goals as goal

pub returns : goal.returns
returns c =
    let fs = c.args.flights.now in
    let k = c.in-Some.k in
    let e = c.args.engine in
    let f = c.in-Some.ensures.0 in
    let place = c.in-Some.ensures.1 in
    let idle : held_by (flights_of fs) e ≡ None = none_found _ _ c.held_by.result c.held_by.ensures (sym c.is_some.ensures ∙ c.if-is_some.false) in
    let free = ap (λ (g : Flying). g.engine) (sym (value_at fs k f c.index-flights-k.result place.at)) ∙ none_left _ (sym c.is_some-2.ensures ∙ c.if-is_some-2.false) in
    let zero_ = ap (λ (g : Flying). g.moved) (sym (value_at fs k f c.index-flights-k-2.result place.at)) ∙ c.if-flights-k-ne0.false in
    let less = c.if-engine-engines.false in (
      (omega (arith, less), idle, subst CanBeTaken (sym place.found) (free, zero_)),
      map-set flight fs k _
          ∙ ap (λ (g : Flying). set (flights_of fs) k (with_engine (Some e) (flight g))) (value_at fs k f c.index-flights-k-3.result place.at)
          ∙ sym (place.change (with_engine (Some e))),
    )
