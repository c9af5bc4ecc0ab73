-- What an action reaches on the prompt side it reaches on the machine's.
use Rattle.std.proofs.Common.{◌≡◌, ℕ, ℤ, false, List, ◌∷◌, length, sym, refl, ap, ◌∙◌, subst, arith}
use Rattle.std.specs.Prelude.{Option, Some, None}
use Rattle.int_ops.specs.Operation.{operation}
use Rattle.bus_model.specs.declared.transfer.Transfer.{Transfer}
use Rattle.bus_model.specs.Engines.{Flight, flight_of}
use Rattle.direct_meaning.specs.Action.{Place, Slow, Fast, Outside, Action, Known, Sets, Loads, Stores, RawLoads, RawStores, Operates, Converts, Allocates, Releases, AllocatesTags, ReleasesTags, Starts, Waits, Faults, Returns}
use Rattle.direct_meaning.specs.Direct.{read}
use Rattle.prompt_semantics.specs.Device.{Device, record_of}
use Rattle.run_parts.specs.Settled.{settled_result, settled}
use Rattle.prompt_laws.specs.Reaches as prompt
use Rattle.prompt_laws.specs.Rooms.{Room, room_at}
use Rattle.order_meaning.specs.Machine.{Half, Here, Away, Core, is_held_up}
use Rattle.order_meaning.specs.Agree.{Agree, with_list, tag_of}
use Rattle.order_meaning.specs.Orderly.{Rooms}
use Rattle.order_meaning.proofs.Flights.{none_some, record_of_flight, record_of_started, started_of_record}
use Rattle.order_meaning.proofs.Roomy.{Roomy}
use Rattle.order_memory.specs.Reaches.{IsLong, IsHome, IsOut, HalfIn, PlaceIn, StartIn, Reaches, CanDo}

module _ (n : ℕ) (x : Core) (y : Device) (agree : Agree n x y) (rooms : List Room) where
  half_in : (number half : ℕ) → prompt.HalfIn rooms y.halves number half → HalfIn rooms x number half
  half_in number half h = record { there = h.there; half_there = h.half_there; long = by (x.halves number half) refl }
    where
      by : (o : Half) → x.halves number half ≡ o → IsLong (room_at rooms number).cells o
      by (Here c) e = ap (λ l. length l) (agree.here number half c e) ∙ h.long
      by (Away tag) e = tt

  place_in : (place : Place) → prompt.PlaceIn rooms y place → PlaceIn rooms x place
  place_in (Slow place) h = let e = agree.bus.long in omega (arith, h, e)
  place_in (Fast number half cell) h = (half_in number half h.0, h.1)
  place_in Outside h = tt

  start_in : (t : Transfer) → prompt.StartIn rooms y t → StartIn rooms x t
  start_in t h = record {
    half = half_in t.fast t.half h.half;
    inside = h.inside;
    tag_fits = h.tag_fits;
    some = h.some;
    some_chunk = h.some_chunk;
    apart = h.apart;
    places = λ e lt. let k = h.places e lt in let l = agree.bus.long in omega (arith, k, l);
    places_fit = h.places_fit;
  }

  -- the half of an outstanding transfer is away
  out : (tag : ℕ) (f : Flight) → flight_of x.flights tag ≡ Some f → IsOut (x.halves f.transfer.fast f.transfer.half)
  out tag f e =
      let on : record_of tag y.outstanding ≡ Some f.transfer = ap (record_of tag) (sym agree.records) ∙ record_of_flight x.flights tag f e in
      by (x.halves f.transfer.fast f.transfer.half) ((agree.away f.transfer.fast f.transfer.half tag).1 (with_list y.halves f.transfer, started_of_record y.halves y.outstanding tag f.transfer on, refl, refl))
    where
      by : (o : Half) → tag_of o ≡ Some tag → IsOut o
      by (Here c) q = absurd (none_some None tag refl q)
      by (Away u) q = tt

  -- no half is away of what isn't allocated
  module _ (slow : ℕ) (rs : Rooms) (rest : List Action) (roomy : Roomy slow rs rest y) where
    home : (number : ℕ) → rs number ≡ None → (half : ℕ) → IsHome (x.halves number half)
    home number free half = by (x.halves number half) refl
      where
        by : (o : Half) → x.halves number half ≡ o → IsHome o
        by (Here c) e = tt
        by (Away tag) e =
            let g = (agree.away number half tag).0 (ap tag_of e) in
            let s = roomy.outstanding tag g.0.transfer (record_of_started y.halves y.outstanding tag g.0 g.1) in
            absurd (none_some (rs g.0.transfer.fast) s.fits.cells (ap rs g.2 ∙ free) s.fits.allocated)

  module _ (slow : ℕ) (rs : Rooms) (a : Action) (more : List Action) (roomy : Roomy slow rs (a ∷ more) y) (may : is_held_up a x.flights ≡ false) where
    values : y.state.registers ≡ x.state.registers
    values = sym agree.registers

    reaching : (b : Action) → a ≡ b → prompt.Reaches rooms (settled y.state.registers b) y → Reaches rooms (settled x.state.registers b) x
    reaching Known e h = tt
    reaching (Sets r z) e h = tt
    reaching (Loads r place) e h = place_in place h
    reaching (Stores v place) e h = place_in place h
    reaching (RawLoads r m sizes subscripts) e h = place_in _ (subst (λ b. prompt.Reaches rooms b y) (ap (λ v. settled v (RawLoads r m sizes subscripts)) values) h)
    reaching (RawStores v m sizes subscripts) e h = place_in _ (subst (λ b. prompt.Reaches rooms b y) (ap (λ v'. settled v' (RawStores v m sizes subscripts)) values) h)
    reaching (Operates r op bits p q) e h = by (operation op bits (read x.state.registers p) (read x.state.registers q))
      where
        by : (o : Option ℤ) → Reaches rooms (settled_result r o) x
        by (Some z) = tt
        by None = tt
    reaching (Converts r kind from to v) e h = tt
    reaching (Allocates number element sizes) e h = record { there = h.there; room = h.room; sizes_fit = h.sizes_fit; home = free }
      where
        r : Roomy slow rs (Allocates number element sizes ∷ more) y
        r = subst (λ b. Roomy slow rs (b ∷ more) y) e roomy

        free : (half : ℕ) → IsHome (x.halves number half)
        free = home slow rs (Allocates number element sizes ∷ more) r number r.orderly.0
    reaching (Releases number element sizes) e h = h
    reaching (AllocatesTags first count) e h = tt
    reaching (ReleasesTags first count) e h = tt
    reaching (Starts t) e h = start_in t h
    reaching (Waits tag count) e h = record { passes = subst (λ b. is_held_up b x.flights ≡ false) e may; out = λ f q. out tag f q }
    reaching (Faults k) e h = tt
    reaching Returns e h = tt

    pub can_do : (capacity : ℕ) → prompt.CanAct rooms capacity a y → CanDo rooms capacity (settled x.state.registers a) x
    can_do capacity can = record {
      reaches = reaching a refl can.reaches;
      live = let e = agree.live in let l = can.live in omega (arith, e, l);
      flights = subst (λ z. z) (λ k. prompt.FlightsFit (sym agree.bus.long k) (sym agree.records k)) can.flights;
    }
