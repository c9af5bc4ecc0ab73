-- What an outstanding transfer is seen as.
use Rattle.std.specs.Prelude.{◌≡◌, ℕ, ℤ, ◌+◌, ◌^◌, ◌<◌, ◌≤◌, List, length, map, Some, None, slice_get, slice_set, if◌then◌else◌}
use Rattle.std.specs.List.{remove}
use Rattle.bus_model.specs.Places.{slow_place}
use Rattle.bus_model.specs.Engines.{Flight, flight_of, with_flight, next_in, next_out, slow_out}
use Rattle.order_meaning.specs.Machine.{transfers_of, without_flight, held_by, CanBeTaken, HasMore, HasAll}
use Rattle.order_meaning.specs.Agree.{TagsApart}
use Rattle.order_engines.specs.declared.flying.Flying.{Flying}

abbrev pub flight : Flying → Flight
flight f = record { transfer = f.transfer; cells = f.cells.items; moved = f.moved; engine = f.engine }

abbrev pub flights_of : List Flying → List Flight
flights_of fs = map flight fs

-- the place of a tag's transfer: it is found there, changed there, and taken off there
pub record IsPlaceOf (fs : List Flying) (tag k : ℕ) (f : Flying) : Type 0 where
  pub at : slice_get fs k ≡ Some f
  pub found : flight_of (flights_of fs) tag ≡ Some (flight f)
  pub change : (g : Flight → Flight) → with_flight (flights_of fs) tag g ≡ slice_set (flights_of fs) k (g (flight f))
  pub without : without_flight tag (flights_of fs) ≡ flights_of (remove fs k)

-- what it takes that an engine takes a tag's transfer
abbrev pub MayTake : ℕ → ℕ → ℕ → List Flight → Type 0
MayTake engines engine tag flights =
    (engine < engines) × (held_by flights engine ≡ None) × CanBeTaken (flight_of flights tag)

abbrev pub MayFinish : ℕ → ℕ → List Flight → Type 0
MayFinish engines engine flights = (engine < engines) × HasAll (held_by flights engine)

abbrev pub MayMove : ℕ → ℕ → List Flight → Type 0
MayMove engines engine flights = (engine < engines) × HasMore (held_by flights engine)

-- no two of them have one tag
abbrev pub AreApart : List Flying → Type 0
AreApart fs = TagsApart (transfers_of (flights_of fs))

-- an engine's transfer, changed
pub record Changed (fs : List Flying) (after : List Flight) (engine : ℕ) (g : Flight → Flight) : Type 0 where
  pub flight : Flight
  pub held : held_by (flights_of fs) engine ≡ Some flight
  pub changed : after ≡ with_flight (flights_of fs) flight.transfer.tag g

-- an outstanding transfer has elements, their places lie within so many slow words, and their cells in its list
pub record FliesWithin (slow : ℕ) (f : Flight) : Type 0 where
  pub some_element : 1 ≤ f.transfer.count
  pub some_chunk : 1 ≤ f.transfer.chunk
  pub within : (e : ℕ) → e < f.transfer.count → slow_place f.transfer e < slow
  pub fits : (e : ℕ) → e < f.transfer.count → slow_place f.transfer e < 2 ^ 32
  pub inside : f.transfer.offset + f.transfer.count ≤ length f.cells
  pub not_past : f.moved ≤ f.transfer.count

abbrev pub AllFlyWithin : ℕ → List Flight → Type 0
AllFlyWithin slow fs = (k : ℕ) (f : Flight) → slice_get fs k ≡ Some f → FliesWithin slow f

-- an engine's next element is moved
pub record IsMoved (slow : List ℤ) (fs : List Flying) (engine : ℕ) (slow' : List ℤ) (after : List Flight) : Type 0 where
  pub flight : Flight
  pub held : held_by (flights_of fs) engine ≡ Some flight
  pub changed : after ≡ with_flight (flights_of fs) flight.transfer.tag (if flight.transfer.incoming then next_in slow else next_out)
  pub words : slow' ≡ (if flight.transfer.incoming then slow else slow_out slow flight)

-- a transfer's next element moved, in its direction
pub record MovesOn (slow : List ℤ) (f : Flight) (slow' : List ℤ) (f' : Flight) : Type 0 where
  pub flight : f' ≡ (if f.transfer.incoming then next_in slow f else next_out f)
  pub words : slow' ≡ (if f.transfer.incoming then slow else slow_out slow f)
