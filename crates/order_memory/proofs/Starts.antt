-- Starts.
use Rattle.std.proofs.Common.{◌≡◌, ℕ, ℤ, zero, suc, ◌+◌, ◌<◌, ◌≤◌, ne_eqb, true, false, List, [], ◌∷◌, ◌++◌, length, refl, sym, ap, ◌∙◌, subst, arith, Err}
use Rattle.std.specs.Prelude.{Option, Some, None, nat_eq, slice_get, vec_capacity}
use Rattle.std.proofs.lemmas.List.{length-map}
use native.Mathlib.Decide.{ℕ_discrete}
use Rattle.bus_model.specs.declared.step.FaultKind.TheVariants.{Touched, Race, Tag}
use Rattle.bus_model.specs.declared.transfer.Transfer.{Transfer}
use Rattle.bus_model.specs.Places.{slow_place}
use Rattle.bus_model.specs.Engines.{Flight, flight_of}
use Rattle.fast_halves.specs.Shape.{HalfShape, here, away}
use Rattle.direct_meaning.specs.Direct.{Fault}
use Rattle.prompt_semantics.specs.Device.{is_started, start_races, put_half, record_of}
use Rattle.run_parts.specs.Registered.{values_of}
use Rattle.prompt_laws.specs.Reaches.{FlightsFit}
use Rattle.prompt_laws.specs.Rooms.{Room, room_at}
use Rattle.fast_rooms.proofs.Flights.{room_for}
use Rattle.order_meaning.specs.Listed.{Has, IsBelow, IsAscending, IsWaiting}
use Rattle.order_meaning.specs.Machine.{Half, Here, Away, Core, transfers_of, sent, start, start_half, CanBeTaken}
use Rattle.order_meaning.proofs.Flights.{if_false, same_some, transfers_behind, no_flight_of_record, record_of_flight}
use Rattle.order_meaning.proofs.Sides.{not_started}
use Rattle.order_engines.specs.Flying.{flight, flights_of, FliesWithin}
use Rattle.order_engines.specs.Waiting.{IsFlights}
use Rattle.order_memory.specs.declared.memory.Memory.{Memory}
use Rattle.order_memory.specs.Halves.{memref_at, half_at, SameHalf, SameHalves}
use Rattle.order_memory.specs.Tied.{Tied, Follows, Ends}
use Rattle.order_memory.specs.Reaches.{IsLong, StartIn}
use Rattle.order_memory.proofs.Changed.{changed}
use Rattle.order_memory.proofs.Halves.{put_both}
use Rattle.order_memory.proofs.Home.{home_behind}
use Rattle.order_memory.proofs.Loads.{stops, goes_on}

-- ---- room in the lists

-- the record of a tag that is outstanding has a tag below so many
tag_low : (size : ℕ) (ts : List Transfer) (tag : ℕ) (t : Transfer) → FlightsFit size ts → record_of tag ts ≡ Some t → tag < 65536
tag_low size [] tag t fit e = absurd (cc)
tag_low size (u ∷ ts) tag t fit e = elim (ℕ_discrete u.tag tag) [
  | yes p ↦ let l = fit.0.tag_fits in omega (arith, l, p)
  | no ne ↦ tag_low size ts tag t fit.2 (sym (if_false (nat_eq u.tag tag) (Some u) (record_of tag ts) (ne_eqb u.tag tag ne)) ∙ e)
]

-- so does each tag that waits
waits_low : (size : ℕ) (fs : List Flight) (tags : List ℕ) → FlightsFit size (transfers_of fs) → IsWaiting fs tags → (u : ℕ) → Has tags u → u < 65536
waits_low size fs tags fit w u h = by (flight_of fs u) refl ((w.members u).1 h)
  where
    by : (o : Option Flight) → flight_of fs u ≡ o → CanBeTaken o → u < 65536
    by None e c = absurd c
    by (Some f) e c = tag_low size (transfers_of fs) u f.transfer fit (record_of_flight fs u f e)

-- ascending numbers from one on and below another are no more than lie between
ascending_few : (us : List ℕ) (low high : ℕ) → low ≤ high → IsAscending us → ((u : ℕ) → Has us u → u < high) → ((u : ℕ) → Has us u → low ≤ u) → low + length us ≤ high
ascending_few [] low high some a below above = omega (arith, some)
ascending_few (u ∷ us) low high some a below above =
    let here : u < high = below u (0, refl) in
    let from : low ≤ u = above u (0, refl) in
    let more = ascending_few us (suc u) high here a.1 (λ v h. below v (suc h.0, h.1)) (λ v h. past v us a.0 h.0 h.1) in
    omega (arith, more, from)
  where
    past : (v : ℕ) (us : List ℕ) → IsBelow u us → (k : ℕ) → slice_get us k ≡ Some v → suc u ≤ v
    past v [] b k e = absurd (cc)
    past v (w ∷ us) b zero e = let p : w ≡ v = same_some w v e in let l = b.0 in omega (arith, l, p)
    past v (w ∷ us) b (suc k) e = past v us b.1 k e

pub few_waiting : (size : ℕ) (fs : List Flight) (tags : List ℕ) → FlightsFit size (transfers_of fs) → IsWaiting fs tags → length tags ≤ 65536
few_waiting size fs tags fit w = let k = ascending_few tags 0 65536 (omega arith) w.ascending (waits_low size fs tags fit w) (λ u h. omega arith) in omega (arith, k)

module _ (rooms : List Room) (x : Core) (m : Memory) (t : Tied rooms x m) (s : Transfer) (can : StartIn rooms x s) where
  pub start_there : s.fast < length m.halves.items
  start_there = let e = t.halves.memrefs in let l = can.half.there in omega (arith, e, l)

  pub start_half_there : s.half < length (memref_at m.halves.items s.fast).halves
  start_half_there = let e = t.halves.many s.fast in let l = can.half.half_there in omega (arith, e, l)

  pub start_cell_there : s.offset < (memref_at m.halves.items s.fast).cells
  start_cell_there = let e = t.halves.cells s.fast in let i = can.inside in let c = can.some in omega (arith, e, i, c)

  pub start_tag : is_started m.records.items s.tag ≡ true → Follows rooms (Err Tag) (start s x) m
  start_tag h = (x, stops (is_started (transfers_of x.flights) s.tag) Tag x _ (ap (λ ts. is_started ts s.tag) (sym t.records) ∙ h), t)

  module _ (idle : is_started m.records.items s.tag ≡ false) where
    idle_here : is_started (transfers_of x.flights) s.tag ≡ false
    idle_here = ap (λ ts. is_started ts s.tag) (sym t.records) ∙ idle

    pub start_touched : (tag : ℕ) → half_at m.halves.items s.fast s.half ≡ Some (away tag) → Follows rooms (Err Touched) (start s x) m
    start_touched tag is = (x, goes_on (is_started (transfers_of x.flights) s.tag) Tag x _ idle_here ∙ by (x.halves s.fast s.half) (t.halves.same s.fast s.half (away tag) is), t)
      where
        by : (o : Half) → SameHalf (room_at rooms s.fast).cells o (away tag) → start_half s o x ≡ Fault Touched x
        by (Here c) same = absurd same
        by (Away u) same = refl

    pub start_races_here : (d : List ℤ) → half_at m.halves.items s.fast s.half ≡ Some (here d) → start_races m.records.items s ≡ true → Follows rooms (Err Race) (start s x) m
    start_races_here d is h = (x, goes_on (is_started (transfers_of x.flights) s.tag) Tag x _ idle_here ∙ by (x.halves s.fast s.half) (t.halves.same s.fast s.half (here d) is), t)
      where
        by : (o : Half) → SameHalf (room_at rooms s.fast).cells o (here d) → start_half s o x ≡ Fault Race x
        by (Here c) same = stops (start_races (transfers_of x.flights) s) Race x _ (ap (λ ts. start_races ts s) (sym t.records) ∙ h)
        by (Away u) same = absurd same

    pub no_flight : flight_of (flights_of m.flights.flying.items) s.tag ≡ None
    no_flight = ap (λ fs. flight_of fs s.tag) (sym t.flights) ∙ no_flight_of_record x.flights s.tag (not_started (transfers_of x.flights) s.tag idle_here)

    pub start_room : FlightsFit (length x.state.slow) (transfers_of x.flights) → length m.records.items < 65536
    start_room fit = ap_less (room_for (length x.state.slow) (transfers_of x.flights) s fit idle_here can.tag_fits)
      where
        ap_less : length (transfers_of x.flights) < 65536 → length m.records.items < 65536
        ap_less l = let e = ap (λ ts. length ts) t.records in omega (arith, l, e)

    pub start_flying_room : FlightsFit (length x.state.slow) (transfers_of x.flights) → length m.flights.flying.items < 65536
    start_flying_room fit =
        let k = room_for (length x.state.slow) (transfers_of x.flights) s fit idle_here can.tag_fits in
        let a = length-map x.flights (λ (f : Flight). f.transfer) in
        let b = ap (λ l. length l) t.flights in
        let c = length-map m.flights.flying.items flight in
        omega (arith, k, a, b, c)

    module _ (free : start_races m.records.items s ≡ false) (d : List ℤ) (is : half_at m.halves.items s.fast s.half ≡ Some (here d)) (long : length d ≡ (memref_at m.halves.items s.fast).cells) (m' : Memory)
        (registers : m'.registers ≡ m.registers) (slow : m'.slow ≡ m.slow) (live : m'.live ≡ m.live)
        (records : m'.records.items ≡ m.records.items ++ s ∷ []) (flights : flights_of m'.flights.flying.items ≡ flights_of m.flights.flying.items ++ sent s d ∷ [])
        (halves : m'.halves.items ≡ changed m.halves.items s.fast s.half (away s.tag) start_there)
        (fly : (size : ℕ) → FliesWithin size (sent s d) → IsFlights size m.flights → IsFlights size m'.flights)
        (room : vec_capacity m'.flights.flying ≡ vec_capacity m.flights.flying) (waiting_room : vec_capacity m'.flights.waiting ≡ vec_capacity m.flights.waiting) (record_room : vec_capacity m'.records ≡ vec_capacity m.records) where
      flies : FliesWithin (length m.slow.items) (sent s d)
      flies = record {
        some_element = can.some;
        some_chunk = can.some_chunk;
        within = λ e lt. subst (λ l. slow_place s e < length l) t.slow (can.places e lt);
        fits = λ e lt. let k = can.places_fit e lt in omega (arith, k);
        inside = let i = can.inside in let e = t.halves.cells s.fast in omega (arith, i, e, long);
        not_past = omega arith;
      }

      abbrev after : List ℤ → Core
      after c = record x { halves = put_half x.halves s.fast s.half (Away s.tag); flights = x.flights ++ sent s c ∷ [] }

      tied_after : (c : List ℤ) → c ≡ d → Tied rooms (after c) m'
      tied_after c e = record {
        registers = t.registers ∙ ap values_of (sym registers);
        slow = t.slow ∙ ap (λ l. l.items) (sym slow);
        live = t.live ∙ sym live;
        flights = (λ k. t.flights k ++ sent s (e k) ∷ []) ∙ sym flights;
        records = records ∙ ap (λ ts. ts ++ s ∷ []) t.records ∙ sym (transfers_behind x.flights (sent s c));
        halves = subst (SameHalves rooms (put_half x.halves s.fast s.half (Away s.tag))) (sym halves) (put_both rooms x.halves m.halves.items t.halves s.fast start_there s.half start_half_there (Away s.tag) (away s.tag) refl);
        home = home_behind rooms x.flights (sent s c) t.home (record { there = can.half.there; half_there = can.half.half_there; long = ap (λ l. length l) e ∙ long ∙ t.halves.cells s.fast });
        fly = subst (λ l. IsFlights (length l.items) m'.flights) (sym slow) (fly (length m.slow.items) flies t.fly);
        room = subst (λ n. 65536 ≤ n) (sym room) t.room;
        waiting_room = subst (λ n. 65537 ≤ n) (sym waiting_room) t.waiting_room;
        record_room = subst (λ n. 65536 ≤ n) (sym record_room) t.record_room;
      }

      pub begins : Ends rooms (start s x) m'
      begins = by (x.halves s.fast s.half) refl (t.halves.same s.fast s.half (here d) is) can.half.long
        where
          by : (o : Half) → x.halves s.fast s.half ≡ o → SameHalf (room_at rooms s.fast).cells o (here d) → IsLong (room_at rooms s.fast).cells o → Ends rooms (start s x) m'
          by (Here c) p same l = (
            after c,
            goes_on (is_started (transfers_of x.flights) s.tag) Tag x _ idle_here ∙ ap (λ o. start_half s o x) p ∙ goes_on (start_races (transfers_of x.flights) s) Race x _ (ap (λ ts. start_races ts s) (sym t.records) ∙ free),
            tied_after c (same l),
          )
          by (Away u) p same l = absurd same

-- a half isn't here and away
pub not_both : (o : Option HalfShape) (d : List ℤ) (tag : ℕ) → o ≡ Some (here d) → o ≡ Some (away tag) → ⊥
not_both o d tag p q = cc

-- the tags that wait are few
pub few_tags : (rooms : List Room) (x : Core) (m : Memory) (t : Tied rooms x m) → FlightsFit (length x.state.slow) (transfers_of x.flights) → length m.flights.waiting.items ≤ 65536
few_tags rooms x m t fit = few_waiting (length x.state.slow) x.flights m.flights.waiting.items fit (subst (λ fs. IsWaiting fs m.flights.waiting.items) (sym t.flights) t.fly.waiting)
