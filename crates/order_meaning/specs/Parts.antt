-- The agreement of a state of the machine with a state of the prompt meaning, part by part.
use Rattle.std.specs.Prelude.{◌≡◌, ◌≢◌, ◌⊎◌, ◌↔◌, ℕ, ℤ, ◌+◌, ◌<◌, ◌≤◌, true, false, List, length, Some}
use Rattle.bus_model.specs.Places.{slow_place}
use Rattle.bus_model.specs.Copies.{number_at}
use Rattle.bus_model.specs.Engines.{Flight, flight_of}
use Rattle.prompt_semantics.specs.Device.{Device}
use Rattle.order_meaning.specs.Machine.{Here, Away, Core, transfers_of}
use Rattle.order_meaning.specs.Agree.{FlightOk, TagsApart, Agree}

-- a transfer is outstanding
abbrev pub IsOutstanding : Core → Flight → Type 0
IsOutstanding x f = flight_of x.flights f.transfer.tag ≡ Some f

-- an element that isn't moved yet
abbrev pub IsUnmoved : Flight → ℕ → Type 0
IsUnmoved f e = (f.moved ≤ e) × (e < f.transfer.count)

-- the cell of an element of a transfer
abbrev pub own_cell : Flight → ℕ → ℕ
own_cell f e = f.transfer.offset + e

abbrev pub prompt_half : Device → Flight → List ℤ
prompt_half y f = y.halves f.transfer.fast f.transfer.half

pub record Parts (engines : ℕ) (x : Core) (y : Device) : Type 0 where
  -- 1: the slow lists have one length, and a slow element outside the unmoved parts of outgoing transfers is equal in both
  pub long : length x.state.slow ≡ length y.state.slow
  pub slow : (i : ℕ) → ((f : Flight) (e : ℕ) → IsOutstanding x f → f.transfer.incoming ≡ false → IsUnmoved f e
      → slow_place f.transfer e ≢ i) → number_at x.state.slow i ≡ number_at y.state.slow i
  -- 2: the unmoved element of an outgoing transfer has in its list the value that y has at its slow place
  pub outgoing : (f : Flight) (e : ℕ) → IsOutstanding x f → f.transfer.incoming ≡ false → IsUnmoved f e
      → number_at f.cells (own_cell f e) ≡ number_at y.state.slow (slow_place f.transfer e)
  -- 3: the moved element of an incoming transfer has in its list the value in y's half; an unmoved one has it at its
  -- slow place in x
  pub moved_in : (f : Flight) (e : ℕ) → IsOutstanding x f → f.transfer.incoming ≡ true → e < f.moved
      → number_at f.cells (own_cell f e) ≡ number_at (prompt_half y f) (own_cell f e)
  pub unmoved_in : (f : Flight) (e : ℕ) → IsOutstanding x f → f.transfer.incoming ≡ true → IsUnmoved f e
      → number_at x.state.slow (slow_place f.transfer e) ≡ number_at (prompt_half y f) (own_cell f e)
  -- 4: no two outstanding transfers share a slow place that one of them writes; the slow places of one are distinct
  pub apart : (f g : Flight) → IsOutstanding x f → IsOutstanding x g → f.transfer.tag ≢ g.transfer.tag
      → (f.transfer.incoming ≡ false) ⊎ (g.transfer.incoming ≡ false)
      → (d e : ℕ) → d < f.transfer.count → e < g.transfer.count → slow_place f.transfer d ≢ slow_place g.transfer e
  pub distinct : (f : Flight) → IsOutstanding x f → (d e : ℕ) → d < f.transfer.count → e < f.transfer.count
      → slow_place f.transfer d ≡ slow_place f.transfer e → d ≡ e
  -- 5: one without an engine has moved nothing or all, no moved count passes its transfer's count, and each engine has
  -- at most one transfer
  pub flights : (f : Flight) → IsOutstanding x f → FlightOk engines f
  pub engines_apart : (f g : Flight) (e : ℕ) → IsOutstanding x f → IsOutstanding x g → f.engine ≡ Some e
      → g.engine ≡ Some e → f ≡ g
  -- 6: a half that is here is equal in both; a half is away exactly where the transfer of that tag names it; no two
  -- transfers have one half, or one tag
  pub here : (number half : ℕ) (cells : List ℤ) → x.halves number half ≡ Here cells → cells ≡ y.halves number half
  pub away : (number half tag : ℕ)
      → (x.halves number half ≡ Away tag) ↔ ((f : Flight) × (flight_of x.flights tag ≡ Some f)
      × (f.transfer.fast ≡ number) × (f.transfer.half ≡ half))
  pub halves_apart : (f g : Flight) → IsOutstanding x f → IsOutstanding x g → f.transfer.fast ≡ g.transfer.fast
      → f.transfer.half ≡ g.transfer.half → f ≡ g
  pub tags_apart : TagsApart y.outstanding
  -- 7: the list of an outgoing transfer, and the cells outside an incoming transfer's elements, equal y's half
  pub outgoing_list : (f : Flight) → IsOutstanding x f → f.transfer.incoming ≡ false → f.cells ≡ prompt_half y f
  pub incoming_list : (f : Flight) → IsOutstanding x f → f.transfer.incoming ≡ true → (c : ℕ)
      → (c < f.transfer.offset) ⊎ (f.transfer.offset + f.transfer.count ≤ c)
      → number_at f.cells c ≡ number_at (prompt_half y f) c
  -- 8: compute's parts are equal, and the outstanding transfers are the records in order
  pub registers : x.state.registers ≡ y.state.registers
  pub live : x.live ≡ y.live
  pub records : transfers_of x.flights ≡ y.outstanding

abbrev pub AgreesInParts : Type 0
AgreesInParts = (engines : ℕ) (x : Core) (y : Device) → Agree engines x y → Parts engines x y
