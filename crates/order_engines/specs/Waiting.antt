-- The outstanding transfers with the tags that engines can take.
use Rattle.std.specs.Prelude.{◌≡◌, ◌⊎◌, ◌↔◌, ℕ, List}
use Rattle.order_meaning.specs.Listed.{Has, IsAscending, IsWaiting}
use Rattle.order_engines.specs.declared.flights.Flights.{Flights}
use Rattle.order_engines.specs.Flying.{flights_of, AreApart, AllFlyWithin}

-- no two transfers have one tag, each fits so many slow words, and the tags beside them are those that an engine can
-- take
pub record IsFlights (slow : ℕ) (f : Flights) : Type 0 where
  pub waiting : IsWaiting (flights_of f.flying.items) f.waiting.items
  pub apart : AreApart f.flying.items
  pub fly : AllFlyWithin slow (flights_of f.flying.items)

-- a tag is put among ascending ones
pub record IsPut (tag : ℕ) (tags after : List ℕ) : Type 0 where
  pub ascending : IsAscending after
  pub members : (t : ℕ) → Has after t ↔ ((t ≡ tag) ⊎ Has tags t)

-- nothing has changed
pub record IsSame (old new : Flights) : Type 0 where
  pub flying : new.flying.items ≡ old.flying.items
  pub waiting : new.waiting.items ≡ old.waiting.items
