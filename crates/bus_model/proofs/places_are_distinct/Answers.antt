use Rattle.bus_model.proofs.Places as places
use Rattle.bus_model.proofs.places_are_distinct.Goals as goal

pub returns : goal.returns
returns c = places.places_are_distinct
