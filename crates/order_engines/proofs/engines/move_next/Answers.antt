use Rattle.std.proofs.Common.{length, set, sym, ap, ◌∙◌, subst, arith}
use Rattle.std.specs.Prelude.{if◌then◌else◌}
use Rattle.std.proofs.lemmas.List.{map-set}
use Rattle.bus_model.specs.Engines.{Flight, next_in, next_out, slow_out}
use Rattle.order_meaning.specs.Machine.{HasMore}
use Rattle.order_engines.specs.declared.flying.Flying.{Flying}
use Rattle.order_engines.specs.Flying.{flight, flights_of, FliesWithin}
use Rattle.order_engines.proofs.Places.{value_at, flight_at, own_place, chosen}
use Rattle.order_engines.proofs.engines.move_next.Goals as goal

pub returns : goal.returns
returns c =
    let slow = c.args.slow.now in
    let fs = c.args.flights.now in
    let k = c.in-Some.k in
    let f = c.in-Some.ensures.0 in
    let at = c.in-Some.ensures.1 in
    let held = c.in-Some.ensures.2 in
    let place = own_place fs k f c.requires.apart at in
    let moved = ap (λ (g : Flying). g.moved) (value_at fs k f c.index-flights-k.result at) in
    let count = ap (λ (g : Flying). g.transfer.count) (value_at fs k f c.index-flights-k-2.result at) in
    let less = c.if-engine-engines.false in
    let more = c.if-flights-k.false in
    let is = value_at fs k f c.index-flights-k-3.result at in (
      (omega (arith, less), subst HasMore (sym held) (omega (arith, more, moved, count))),
      record {
        flight = flight f;
        held = held;
        changed = map-set flight fs k _
            ∙ ap (λ (g : Flight). set (flights_of fs) k g) (c.move_next.ensures.flight ∙ ap (λ (h : Flying). if h.transfer.incoming then next_in slow (flight h) else next_out (flight h)) is ∙ chosen f.transfer.incoming (next_in slow) next_out (flight f))
            ∙ sym (place.change (if f.transfer.incoming then next_in slow else next_out));
        words = c.move_next.ensures.words ∙ ap (λ (h : Flying). if h.transfer.incoming then slow else slow_out slow (flight h)) is;
      },
    )

pub move_next-requires-clause-within : goal.move_next-requires-clause-within
move_next-requires-clause-within c =
    let f = c.in-Some.ensures.0 in
    let at = c.in-Some.ensures.1 in
    subst (λ (g : Flying). FliesWithin (length c.args.slow.now) (flight g)) (sym (value_at c.args.flights.now c.in-Some.k f c.index-flights-k-3.result at)) (c.requires.within c.in-Some.k (flight f) (flight_at c.args.flights.now c.in-Some.k f at))
