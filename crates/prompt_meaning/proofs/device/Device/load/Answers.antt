use Rattle.std.proofs.Common.{sym, subst}
use Rattle.std.specs.List.{All}
use Rattle.transfer_records.specs.Found.{HasPlaces}
use Rattle.fast_rooms.proofs.Flights.{all_have_places}
use Rattle.prompt_meaning.proofs.device.Device.load.Goals as goal

pub load_races-requires : goal.load_races-requires
load_races-requires c = subst (All HasPlaces) (sym c.as_slice.ensures.value) (all_have_places c.requires.flights.0 _ c.requires.flights.1)
