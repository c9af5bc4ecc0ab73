use Rattle.std.proofs.Common.{◌≡◌, ◌∙◌, sym, ap, subst, true, false, length, arith}
use Rattle.prompt_semantics.specs.Device.{is_started, start_races}
use Rattle.std.specs.List.{All}
use Rattle.transfer_records.specs.Found.{HasPlaces}
use Rattle.fast_rooms.proofs.Flights.{all_have_places}
use Rattle.order_memory.proofs.Starts.{start_there, start_half_there, start_cell_there, start_tag, start_touched, start_races_here}
use Rattle.order_memory.proofs.memory.Memory.start.Goals as goal

pub returns-in-Some-clause-follows : goal.returns-in-Some-clause-follows
returns-in-Some-clause-follows c = λ rooms x t can. start_tag rooms x _ t c.args.transfer can (subst (λ ts. is_started ts c.args.transfer.tag ≡ true) c.as_slice.ensures.value c.in-Some.ensures.0)

pub is_here-requires : goal.is_here-requires
is_here-requires c = let y = c.requires in record { there = start_there y.0 y.1 _ y.2 c.args.transfer y.3; half_there = start_half_there y.0 y.1 _ y.2 c.args.transfer y.3; cell_there = start_cell_there y.0 y.1 _ y.2 c.args.transfer y.3 }

pub returns-then-not-is_here-clause-follows : goal.returns-then-not-is_here-clause-follows
returns-then-not-is_here-clause-follows c = λ rooms x t can.
    (let idle = subst (λ ts. is_started ts c.args.transfer.tag ≡ false) c.as_slice.ensures.value c.in_default.ensures.0 in
    let away = c.if-not-is_here.ensures in
    start_touched rooms x _ t c.args.transfer can idle away.0 away.1)

pub start_races-requires-clause-outstanding : goal.start_races-requires-clause-outstanding
start_races-requires-clause-outstanding c = let y = c.requires in subst (All HasPlaces) (sym y.2.records ∙ sym c.as_slice-2.ensures.value) (all_have_places (length y.1.state.slow) _ y.4)

pub start_races-requires-clause-start : goal.start_races-requires-clause-start
start_races-requires-clause-start c = let y = c.requires in record { some_chunk = y.3.some_chunk; fit = λ e below. (let k = y.3.places_fit e below in omega (arith, k)) }

pub returns-then-start_races-clause-follows : goal.returns-then-start_races-clause-follows
returns-then-start_races-clause-follows c = λ rooms x t can.
    (let idle = subst (λ ts. is_started ts c.args.transfer.tag ≡ false) c.as_slice.ensures.value c.in_default.ensures.0 in
    let here = c.if-not-is_here.ensures in
    start_races_here rooms x _ t c.args.transfer can idle here.0 here.1 (ap (λ ts. start_races ts c.args.transfer) (sym c.as_slice-2.ensures.value) ∙ sym c.start_races.ensures ∙ c.if-start_races.true))
