-- How a state of the machine agrees with a state of the prompt meaning.
use Rattle.std.specs.Prelude.{◌≡◌, ◌⊎◌, ℕ, ℤ, ◌<◌, ◌≤◌, List, [], ◌∷◌, map, Option, Some, None}
use Rattle.bus_model.specs.declared.transfer.Transfer.{Transfer}
use Rattle.bus_model.specs.declared.transfer.Started.{Started}
use Rattle.bus_model.specs.Ledger.{HalvesAway}
use Rattle.bus_model.specs.Engines.{Flight, flight_of, Device as Bus, Prompt as PromptBus, started_of, Agree as BusAgrees}
use Rattle.prompt_semantics.specs.Device.{Device, record_of}
use Rattle.order_meaning.specs.Machine.{Half, Here, Away, Core, transfers_of}

-- slow memory and the outstanding transfers
abbrev pub bus_of : Core → Bus
bus_of x = record { slow = x.state.slow; flights = x.flights }

-- a transfer on record, with the list that its half has where it was copied at its start
abbrev pub with_list : (ℕ → ℕ → List ℤ) → Transfer → Started
with_list halves t = record { transfer = t; list = halves t.fast t.half }

abbrev pub lists_of : (ℕ → ℕ → List ℤ) → List Transfer → List Started
lists_of halves ts = map (with_list halves) ts

abbrev pub prompt_of : Device → PromptBus
prompt_of y = record { slow = y.state.slow; started = lists_of y.halves y.outstanding }

abbrev pub tag_of : Half → Option ℕ
tag_of (Here cells) = None
tag_of (Away tag) = Some tag

-- no tag is that of two transfers
abbrev pub TagsApart : List Transfer → Type 0
TagsApart [] = Unit {0}
TagsApart (t ∷ ts) = (record_of t.tag ts ≡ None) × TagsApart ts

-- a transfer without an engine has moved nothing or all; its engine is one of the machine's
abbrev pub IsSteady : ℕ → Option ℕ → Flight → Type 0
IsSteady engines None f = (f.moved ≡ 0) ⊎ (f.moved ≡ f.transfer.count)
IsSteady engines (Some e) f = e < engines

pub record FlightOk (engines : ℕ) (f : Flight) : Type 0 where
  pub steady : IsSteady engines f.engine f
  pub not_past : f.moved ≤ f.transfer.count

pub record Agree (engines : ℕ) (x : Core) (y : Device) : Type 0 where
  -- slow memory but for the unmoved elements of outgoing transfers; the transfers' lists but for the unmoved elements
  -- of incoming ones, whose values stand at their slow places; places that don't meet
  pub bus : BusAgrees (bus_of x) (prompt_of y)
  -- each transfer has at most one engine, and each engine at most one transfer
  pub flights : (tag : ℕ) (f : Flight) → flight_of x.flights tag ≡ Some f → FlightOk engines f
  pub engines_apart : (t u e : ℕ) (f g : Flight) → flight_of x.flights t ≡ Some f → flight_of x.flights u ≡ Some g
      → f.engine ≡ Some e → g.engine ≡ Some e → t ≡ u
  -- a half that is here is equal in both, and a half is away exactly where an outstanding transfer names it
  pub here : (number half : ℕ) (cells : List ℤ) → x.halves number half ≡ Here cells → cells ≡ y.halves number half
  pub away : HalvesAway (λ number half. tag_of (x.halves number half)) (started_of (lists_of y.halves y.outstanding))
  pub tags_apart : TagsApart y.outstanding
  -- compute's parts are equal, and the outstanding transfers are the records in order
  pub registers : x.state.registers ≡ y.state.registers
  pub live : x.live ≡ y.live
  pub records : transfers_of x.flights ≡ y.outstanding
