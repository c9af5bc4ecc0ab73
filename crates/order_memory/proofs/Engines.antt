-- The steps of engines.
use Rattle.std.proofs.Common.{◌≡◌, ℕ, ℤ, ◌≤◌, Bool, true, false, List, length, refl, sym, ap, ◌∙◌, subst, length-set, ◌+◌}
use Rattle.std.specs.Prelude.{Some, None, vec_capacity, if◌then◌else◌}
use Rattle.std.specs.Bool.{MatchBool}
use Rattle.std.specs.Vec.{with_items}
use Rattle.std.proofs.lemmas.List.{with_items_is}
use Rattle.bus_model.specs.Engines.{Flight, with_flight, with_engine, next_in, next_out, slow_out}
use Rattle.bus_model.specs.Places.{slow_place}
use Rattle.bus_model.specs.Copies.{number_at}
use Rattle.run_parts.specs.Registered.{values_of}
use Rattle.prompt_laws.specs.Rooms.{Room}
use Rattle.order_meaning.specs.Machine.{Core, transfers_of, held_by, with_next, with_finished}
use Rattle.order_meaning.proofs.Flights.{transfers_with}
use Rattle.order_engines.specs.declared.flights.Flights.{Flights}
use Rattle.order_engines.specs.Flying.{flights_of, MayTake, MayMove, MayFinish, Changed, IsMoved}
use Rattle.order_engines.specs.Waiting.{IsFlights, IsSame}
use Rattle.order_memory.specs.declared.memory.Memory.{Memory}
use Rattle.order_memory.specs.Halves.{SameHalves}
use Rattle.order_memory.specs.Tied.{AllHome, Tied, TakesOrNot, MovesOrNot, FinishesOrNot}
use Rattle.order_memory.proofs.Home.{home_with}

module _ (rooms : List Room) (x : Core) (m : Memory) (t : Tied rooms x m) (engines : ℕ) (m' : Memory)
    (registers : m'.registers ≡ m.registers) (records : m'.records ≡ m.records) (live : m'.live ≡ m.live) (halves : m'.halves ≡ m.halves)
    (room : vec_capacity m'.flights.flying ≡ vec_capacity m.flights.flying) (waiting_room : vec_capacity m'.flights.waiting ≡ vec_capacity m.flights.waiting) where
  -- other words, and other flights with the same transfers
  with_flights : (words : List ℤ) (fs : List Flight) → words ≡ m'.slow.items → fs ≡ flights_of m'.flights.flying.items → transfers_of fs ≡ transfers_of x.flights → AllHome rooms fs → IsFlights (length m'.slow.items) m'.flights
      → Tied rooms (record x { state = record x.state { slow = words }; flights = fs }) m'
  with_flights words fs slow flights same home fly = record {
    registers = t.registers ∙ ap values_of (sym registers);
    slow = slow;
    live = t.live ∙ sym live;
    flights = flights;
    records = ap (λ rs. rs.items) records ∙ t.records ∙ sym same;
    halves = subst (λ hs. SameHalves rooms x.halves hs.items) (sym halves) t.halves;
    home = home;
    fly = fly;
    room = subst (λ n. 65536 ≤ n) (sym room) t.room;
    waiting_room = subst (λ n. 65537 ≤ n) (sym waiting_room) t.waiting_room;
    record_room = subst (λ rs. 65536 ≤ vec_capacity rs) (sym records) t.record_room;
  }

  here : flights_of m.flights.flying.items ≡ x.flights
  here = sym t.flights

  pub takes : (engine tag : ℕ) (done : Bool) → m'.slow ≡ m.slow → ((size : ℕ) → IsFlights size m.flights → IsFlights size m'.flights)
      → MatchBool done
      (MayTake engines engine tag (flights_of m.flights.flying.items) × (flights_of m'.flights.flying.items ≡ with_flight (flights_of m.flights.flying.items) tag (with_engine (Some engine))))
      ((MayTake engines engine tag (flights_of m.flights.flying.items) → ⊥) × IsSame m.flights m'.flights)
      → TakesOrNot rooms engines engine tag done x m'
  takes engine tag true slow fly h =
      let words = t.slow ∙ ap (λ l. l.items) (sym slow) in (
        subst (MayTake engines engine tag) here h.0,
        with_flights x.state.slow (with_flight x.flights tag (with_engine (Some engine))) words (ap (λ fs. with_flight fs tag (with_engine (Some engine))) t.flights ∙ sym h.1)
            (transfers_with tag (with_engine (Some engine)) (λ f. refl) x.flights) (home_with rooms tag (with_engine (Some engine)) (λ f h. record { there = h.there; half_there = h.half_there; long = h.long }) x.flights t.home) (subst (λ l. IsFlights (length l.items) m'.flights) (sym slow) (fly (length m.slow.items) t.fly)),
      )
  takes engine tag false slow fly h =
      let words = t.slow ∙ ap (λ l. l.items) (sym slow) in (
        (λ k. h.0 (subst (MayTake engines engine tag) (sym here) k)),
        with_flights x.state.slow x.flights words (t.flights ∙ ap flights_of (sym h.1.flying)) refl t.home (subst (λ l. IsFlights (length l.items) m'.flights) (sym slow) (fly (length m.slow.items) t.fly)),
      )

  pub finishes : (engine : ℕ) (done : Bool) → m'.slow ≡ m.slow → ((size : ℕ) → IsFlights size m.flights → IsFlights size m'.flights)
      → MatchBool done
      (MayFinish engines engine (flights_of m.flights.flying.items) × Changed m.flights.flying.items (flights_of m'.flights.flying.items) engine (with_engine None))
      ((MayFinish engines engine (flights_of m.flights.flying.items) → ⊥) × IsSame m.flights m'.flights)
      → FinishesOrNot rooms engines engine done x m'
  finishes engine true slow fly h =
      let words = t.slow ∙ ap (λ l. l.items) (sym slow) in
      let f = h.1.flight in
      let held : held_by x.flights engine ≡ Some f = ap (λ fs. held_by fs engine) t.flights ∙ h.1.held in (
        subst (MayFinish engines engine) here h.0,
        subst (λ o. Tied rooms (with_finished o x) m') (sym held)
            (with_flights x.state.slow (with_flight x.flights f.transfer.tag (with_engine None)) words (ap (λ fs. with_flight fs f.transfer.tag (with_engine None)) t.flights ∙ sym h.1.changed)
            (transfers_with f.transfer.tag (with_engine None) (λ f. refl) x.flights) (home_with rooms f.transfer.tag (with_engine None) (λ f h. record { there = h.there; half_there = h.half_there; long = h.long }) x.flights t.home) (subst (λ l. IsFlights (length l.items) m'.flights) (sym slow) (fly (length m.slow.items) t.fly))),
      )
  finishes engine false slow fly h =
      let words = t.slow ∙ ap (λ l. l.items) (sym slow) in (
        (λ k. h.0 (subst (MayFinish engines engine) (sym here) k)),
        with_flights x.state.slow x.flights words (t.flights ∙ ap flights_of (sym h.1.flying)) refl t.home (subst (λ l. IsFlights (length l.items) m'.flights) (sym slow) (fly (length m.slow.items) t.fly)),
      )

  moves : (engine : ℕ) (done : Bool) → IsFlights (length m'.slow.items) m'.flights
      → MatchBool done
      (MayMove engines engine (flights_of m.flights.flying.items) × IsMoved m.slow.items m.flights.flying.items engine m'.slow.items (flights_of m'.flights.flying.items))
      ((MayMove engines engine (flights_of m.flights.flying.items) → ⊥) × IsSame m.flights m'.flights × (m'.slow.items ≡ m.slow.items))
      → MovesOrNot rooms engines engine done x m'
  moves engine true fly h =
      let held : held_by x.flights engine ≡ Some h.1.flight = ap (λ fs. held_by fs engine) t.flights ∙ h.1.held in
      (subst (MayMove engines engine) here h.0, subst (λ o. Tied rooms (with_next o x) m') (sym held) (by h.1.flight h.1.flight.transfer.incoming h.1.changed h.1.words))
    where
      by : (f : Flight) (b : Bool) → flights_of m'.flights.flying.items ≡ with_flight (flights_of m.flights.flying.items) f.transfer.tag (if b then next_in m.slow.items else next_out) → m'.slow.items ≡ (if b then m.slow.items else slow_out m.slow.items f)
          → Tied rooms (if b then record x { flights = with_flight x.flights f.transfer.tag (next_in x.state.slow) } else record x { state = record x.state { slow = slow_out x.state.slow f }; flights = with_flight x.flights f.transfer.tag next_out }) m'
      by f true flights slow = with_flights x.state.slow (with_flight x.flights f.transfer.tag (next_in x.state.slow)) (t.slow ∙ sym slow)
          ((λ k. with_flight (t.flights k) f.transfer.tag (next_in (t.slow k))) ∙ sym flights) (transfers_with f.transfer.tag (next_in x.state.slow) (λ f. refl) x.flights) (home_with rooms f.transfer.tag (next_in x.state.slow) (λ f h. record { there = h.there; half_there = h.half_there; long = length-set f.cells (f.transfer.offset + f.moved) (number_at x.state.slow (slow_place f.transfer f.moved)) ∙ h.long }) x.flights t.home) fly
      by f false flights slow = with_flights (slow_out x.state.slow f) (with_flight x.flights f.transfer.tag next_out) (ap (λ l. slow_out l f) t.slow ∙ sym slow)
          (ap (λ fs. with_flight fs f.transfer.tag next_out) t.flights ∙ sym flights) (transfers_with f.transfer.tag next_out (λ f. refl) x.flights) (home_with rooms f.transfer.tag next_out (λ f h. record { there = h.there; half_there = h.half_there; long = h.long }) x.flights t.home) fly
  moves engine false fly h = (
    (λ k. h.0 (subst (MayMove engines engine) (sym here) k)),
    with_flights x.state.slow x.flights (t.slow ∙ sym h.2) (t.flights ∙ ap flights_of (sym h.1.flying)) refl t.home fly,
  )

-- the same, where the words are those of a list that was written over
pub moves_as : (rooms : List Room) (x : Core) (m : Memory) (t : Tied rooms x m) (engines engine : ℕ) (words ws : List ℤ) (fl : Flights) → words ≡ m.slow.items → length ws ≡ length words
    → vec_capacity fl.flying ≡ vec_capacity m.flights.flying → vec_capacity fl.waiting ≡ vec_capacity m.flights.waiting → (done : Bool) → IsFlights (length ws) fl
    → MatchBool done
    (MayMove engines engine (flights_of m.flights.flying.items) × IsMoved words m.flights.flying.items engine ws (flights_of fl.flying.items))
    ((MayMove engines engine (flights_of m.flights.flying.items) → ⊥) × IsSame m.flights fl × (ws ≡ words))
    → MovesOrNot rooms engines engine done x (record m { slow = with_items m.slow ws; flights = fl })
moves_as rooms x m t engines engine words ws fl value long room waiting_room done fly h =
    let now : (with_items m.slow ws).items ≡ ws = with_items_is m.slow ws (long ∙ ap (λ l. length l) value ∙ sym m.slow.ok.0) in
    moves rooms x m t engines (record m { slow = with_items m.slow ws; flights = fl }) refl refl refl refl room waiting_room engine done (subst (λ l. IsFlights (length l) fl) (sym now) fly)
    (subst (λ z. z) (λ k. MatchBool done
    (MayMove engines engine (flights_of m.flights.flying.items) × IsMoved (value k) m.flights.flying.items engine (sym now k) (flights_of fl.flying.items))
    ((MayMove engines engine (flights_of m.flights.flying.items) → ⊥) × IsSame m.flights fl × (sym now k ≡ value k))) h)
