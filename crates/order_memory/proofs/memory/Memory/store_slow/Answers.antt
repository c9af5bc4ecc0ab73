use Rattle.std.proofs.Common.{rules, ◌∙◌, sym, ap, subst, refl, set, w64}
use Rattle.std.specs.List.{All}
use Rattle.std.proofs.lemmas.Int.{to_z-of_z}
use Rattle.prompt_semantics.specs.Device.{store_races}
use Rattle.transfer_records.specs.Found.{HasPlaces}
use Rattle.fast_rooms.proofs.Flights.{all_have_places}
use Rattle.order_memory.proofs.Loads.{store_races_here, store_slow}
use Rattle.order_memory.proofs.memory.Memory.store_slow.Goals as goal

pub store_races-requires : goal.store_races-requires
store_races-requires c = subst (All HasPlaces) (sym c.as_slice.ensures.value) (all_have_places c.requires.flights.0 _ c.requires.flights.1)

pub returns-then-store_races-clause-follows : goal.returns-then-store_races-clause-follows
returns-then-store_races-clause-follows c = λ rooms x t. store_races_here rooms x _ t c.args.place c.args.value (ap (λ ts. store_races ts c.args.place) (sym c.as_slice.ensures.value) ∙ sym c.store_races.ensures ∙ c.if-store_races.true)

pub returns-clause-follows : goal.returns-clause-follows
returns-clause-follows c = λ rooms x t. store_slow rooms x _ t c.args.place c.args.value _ (ap (λ ts. store_races ts c.args.place) (sym c.as_slice.ensures.value) ∙ sym c.store_races.ensures ∙ c.if-store_races.false) refl (ap (set c.args.self.now.slow.items c.args.place) (to_z-of_z w64 c.args.value (search rules))) refl refl refl refl
