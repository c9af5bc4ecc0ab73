-- Where the elements of two transfers lie, and whether they end by a slow place. Where one transfer's elements lie is the bus's.
use Rattle.std.specs.Prelude.{ℕ, Bool, nat_lt}
use Rattle.std.specs.List.{list_any, list_all}
use Rattle.bus_model.specs.declared.transfer.Transfer.{Transfer}
unfoldable pub use Rattle.bus_model.specs.Places.{slow_place}
pub use Rattle.bus_model.specs.Places.{slow_places, meets}

-- whether two transfers share a slow place
abbrev pub overlap : Transfer → Transfer → Bool
overlap a b = list_any (meets b) (slow_places a)

-- whether every element lies below a slow place
abbrev pub ends_by : Transfer → ℕ → Bool
ends_by t end = list_all (λ place. nat_lt place end) (slow_places t)
