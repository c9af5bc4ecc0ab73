use Rattle.std.proofs.Common.{pos, rules, ◌∙◌, sym, ap, subst, w64}
use Rattle.std.specs.List.{All}
use Rattle.std.proofs.lemmas.Int.{to_z-of_z}
use Rattle.prompt_semantics.specs.Device.{load_races}
use Rattle.transfer_records.specs.Found.{HasPlaces}
use Rattle.fast_rooms.proofs.Flights.{all_have_places}
use Rattle.order_memory.proofs.Loads.{any_default, slow_races, slow_gives}
use Rattle.order_memory.proofs.memory.Memory.load_slow.Goals as goal

pub load_races-requires : goal.load_races-requires
load_races-requires c = subst (All HasPlaces) (sym c.as_slice.ensures.value) (all_have_places c.requires.flights.0 _ c.requires.flights.1)

pub returns-then-load_races : goal.returns-then-load_races
returns-then-load_races c = λ rooms x t. slow_races rooms x _ t c.args.place (ap (λ ts. load_races ts c.args.place) (sym c.as_slice.ensures.value) ∙ sym c.load_races.ensures ∙ c.if-load_races.true)

pub returns : goal.returns
returns c = λ rooms x t. slow_gives rooms x _ t c.args.place _ (ap (λ ts. load_races ts c.args.place) (sym c.as_slice.ensures.value) ∙ sym c.load_races.ensures ∙ c.if-load_races.false) (to_z-of_z w64 c.index.result.now (search rules) ∙ c.index.ensures ∙ any_default c.args.self.now.slow.items c.args.place _ (pos 0) c.requires.place)
