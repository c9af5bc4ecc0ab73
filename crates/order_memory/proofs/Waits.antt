-- Waits.
use Rattle.std.proofs.Common.{◌≡◌, ℕ, zero, suc, ◌<◌, ◌≤◌, Bool, true, false, List, [], ◌∷◌, length, get_or, refl, sym, ap, ◌∙◌, subst, arith, Err, eq-eqb}
use Rattle.std.specs.Prelude.{Option, Some, None, nat_eq, not, ◌&&◌, slice_get, vec_capacity, if◌then◌else◌}
use Rattle.bus_model.specs.declared.step.FaultKind.TheVariants.{Shape, Tag}
use Rattle.bus_model.specs.declared.transfer.Transfer.{Transfer}
use Rattle.bus_model.specs.Engines.{Flight, flight_of}
use Rattle.fast_halves.specs.Shape.{HalfShape, here, away, IsAway}
use Rattle.direct_meaning.specs.Direct.{End, Fault}
use Rattle.prompt_semantics.specs.Device.{put_half, record_of, without}
use Rattle.run_parts.specs.Registered.{values_of}
use Rattle.prompt_laws.specs.Rooms.{Room, room_at}
use Rattle.order_meaning.specs.Machine.{Half, Here, Away, Core, transfers_of, without_flight, wait_on, is_finished, holds_up}
use Rattle.order_meaning.proofs.Flights.{none_some, same_some, transfer_in, record_by, no_flight_of_record, transfers_without}
use Rattle.order_engines.specs.Flying.{flights_of}
use Rattle.order_engines.specs.Waiting.{IsFlights}
use Rattle.order_memory.specs.declared.memory.Memory.{Memory}
use Rattle.order_memory.specs.Halves.{memref_at, half_at, SameHalf, SameHalves}
use Rattle.order_memory.specs.Parts.{accepted}
use Rattle.order_memory.specs.Tied.{FlightHome, Tied, Follows}
use Rattle.transfer_records.specs.Found.{Finds}
use Rattle.std.proofs.lemmas.Option.{slice_get-get_or}
use Rattle.order_memory.specs.Reaches.{IsOut, WaitIn}
use Rattle.order_memory.proofs.Changed.{changed}
use Rattle.order_memory.proofs.Halves.{put_both}
use Rattle.order_memory.proofs.Home.{home_of, home_without}

-- the flight of a record
pub record Recorded (x : Core) (tag : ℕ) (s : Transfer) : Type 0 where
  pub flight : Flight
  pub found : flight_of x.flights tag ≡ Some flight
  pub is : flight.transfer ≡ s

pub recorded : (x : Core) (tag : ℕ) (s : Transfer) → record_of tag (transfers_of x.flights) ≡ Some s → Recorded x tag s
recorded x tag s e = by (flight_of x.flights tag) refl
  where
    by : (o : Option Flight) → flight_of x.flights tag ≡ o → Recorded x tag s
    by None q = absurd (none_some (record_of tag (transfers_of x.flights)) s (record_by x.flights tag ∙ ap transfer_in q) e)
    by (Some f) q = record { flight = f; found = q; is = same_some f.transfer s (sym (record_by x.flights tag ∙ ap transfer_in q) ∙ e) }

-- a wait that passes on a transfer of its count has it finished
pub finished : (f : Flight) (count : ℕ) → f.transfer.count ≡ count → holds_up (Some f) count ≡ false → is_finished f ≡ true
finished f count e h = by (is_finished f) (nat_eq f.transfer.count count) (eq-eqb f.transfer.count count e) h
  where
    by : (b c : Bool) → c ≡ true → (c && not b) ≡ false → b ≡ true
    by true c p q = refl
    by false true p q = absurd (cc)
    by false false p q = absurd (cc)

module _ (rooms : List Room) (x : Core) (m : Memory) (t : Tied rooms x m) (tag : ℕ) where
  pub wait_idle : (count : ℕ) → record_of tag m.records.items ≡ None → Follows rooms (Err Tag) (wait_on (flight_of x.flights tag) tag count x) m
  wait_idle count none = (x, ap (λ o. wait_on o tag count x) (no_flight_of_record x.flights tag (ap (record_of tag) (sym t.records) ∙ none)), t)

  pub wait_shape : (count : ℕ) (s : Transfer) → record_of tag m.records.items ≡ Some s → (s.count ≡ count → ⊥) → Follows rooms (Err Shape) (wait_on (flight_of x.flights tag) tag count x) m
  wait_shape count s e ne =
      let r = recorded x tag s (ap (record_of tag) (sym t.records) ∙ e) in
      (x, ap (λ o. wait_on o tag count x) r.found ∙ by r (nat_eq r.flight.transfer.count count) refl, t)
    where
      by : (r : Recorded x tag s) (b : Bool) → nat_eq r.flight.transfer.count count ≡ b → wait_on (Some r.flight) tag count x ≡ Fault Shape x
      by r true q = absurd (ne (ap (λ (s : Transfer). s.count) (sym r.is) ∙ number r.flight.transfer.count count q))
        where
          number : (a b : ℕ) → nat_eq a b ≡ true → a ≡ b
          number a b h = grind (arith, h)
      by r false q = ap (λ b. if b then End (accepted tag r.flight x) else Fault Shape x) q

  -- one that passes
  pub wait_passes : (count : ℕ) (f : Flight) → flight_of x.flights tag ≡ Some f → f.transfer.count ≡ count → wait_on (flight_of x.flights tag) tag count x ≡ End (accepted tag f x)
  wait_passes count f found e = ap (λ o. wait_on o tag count x) found ∙ ap (λ b. if b then End (accepted tag f x) else Fault Shape x) (eq-eqb f.transfer.count count e)

  module _ (f : Flight) (found : flight_of x.flights tag ≡ Some f) (out : IsOut (x.halves f.transfer.fast f.transfer.half)) where
    home : FlightHome rooms f
    home = home_of rooms x.flights tag f t.home found

    pub accept_there : f.transfer.fast < length m.halves.items
    accept_there = let e = t.halves.memrefs in let l = home.there in omega (arith, e, l)

    pub accept_half_there : f.transfer.half < length (memref_at m.halves.items f.transfer.fast).halves
    accept_half_there = let e = t.halves.many f.transfer.fast in let l = home.half_there in omega (arith, e, l)

    pub accept_long : length f.cells ≡ (memref_at m.halves.items f.transfer.fast).cells
    accept_long = home.long ∙ sym (t.halves.cells f.transfer.fast)

    pub accept_away : IsAway (half_at m.halves.items f.transfer.fast f.transfer.half)
    accept_away = by (half_at m.halves.items f.transfer.fast f.transfer.half) refl (x.halves f.transfer.fast f.transfer.half) out (λ v e. t.halves.same f.transfer.fast f.transfer.half v e)
      where
        some : (hs : List HalfShape) (k : ℕ) → k < length hs → slice_get hs k ≡ None → ⊥
        some [] k lt e = omega (arith, lt)
        some (h ∷ hs) zero lt e = none_some (Some h) h e refl
        some (h ∷ hs) (suc k) lt e = some hs k (omega (arith, lt)) e

        by : (o : Option HalfShape) → half_at m.halves.items f.transfer.fast f.transfer.half ≡ o → (h : Half) → IsOut h → ((v : HalfShape) → half_at m.halves.items f.transfer.fast f.transfer.half ≡ Some v → SameHalf (room_at rooms f.transfer.fast).cells h v) → IsAway o
        by None e h out same = absurd (some (memref_at m.halves.items f.transfer.fast).halves f.transfer.half accept_half_there e)
        by (Some (away u)) e h out same = tt
        by (Some (here c)) e (Here d) out same = absurd out
        by (Some (here c)) e (Away u) out same = absurd (same (here c) e)

    pub accepts : (m' : Memory) → m'.registers ≡ m.registers → m'.slow ≡ m.slow → m'.live ≡ m.live → m'.records.items ≡ without tag m.records.items
        → flights_of m'.flights.flying.items ≡ without_flight tag (flights_of m.flights.flying.items) → m'.halves.items ≡ changed m.halves.items f.transfer.fast f.transfer.half (here f.cells) accept_there
        → ((size : ℕ) → IsFlights size m.flights → IsFlights size m'.flights) → vec_capacity m'.flights.flying ≡ vec_capacity m.flights.flying → m'.flights.waiting ≡ m.flights.waiting → vec_capacity m'.records ≡ vec_capacity m.records
        → Tied rooms (accepted tag f x) m'
    accepts m' registers slow live records flights halves fly room waiting record_room = record {
      registers = t.registers ∙ ap values_of (sym registers);
      slow = t.slow ∙ ap (λ l. l.items) (sym slow);
      live = t.live ∙ sym live;
      flights = ap (without_flight tag) t.flights ∙ sym flights;
      records = records ∙ ap (without tag) t.records ∙ sym (transfers_without x.flights tag);
      halves = subst (SameHalves rooms (put_half x.halves f.transfer.fast f.transfer.half (Here f.cells))) (sym halves)
          (put_both rooms x.halves m.halves.items t.halves f.transfer.fast accept_there f.transfer.half accept_half_there (Here f.cells) (here f.cells) (λ _. refl));
      home = home_without rooms x.flights tag t.home;
      fly = subst (λ l. IsFlights (length l.items) m'.flights) (sym slow) (fly (length m.slow.items) t.fly);
      room = subst (λ n. 65536 ≤ n) (sym room) t.room;
      waiting_room = subst (λ w. 65537 ≤ vec_capacity w) (sym waiting) t.waiting_room;
      record_room = subst (λ n. 65536 ≤ n) (sym record_room) t.record_room;
    }

    -- told of the transfer as it was known
    pub accepts_known : (g : Flight) → g ≡ f → (m' : Memory) → Tied rooms (accepted tag f x) m' → Tied rooms (accepted tag g x) m'
    accepts_known g e m' k = subst (λ g. Tied rooms (accepted tag g x) m') (sym e) k

-- the record at the place that was found
pub wait_found : (ts : List Transfer) (tag place : ℕ) (s : Transfer) → Finds ts tag (Some place) → s ≡ get_or ts place s → record_of tag ts ≡ Some s
wait_found ts tag place s f at = f.2 ∙ slice_get-get_or ts place s f.1 ∙ ap (λ t. Some t) (sym at)

-- a transfer that is waited for with its count is finished
pub record Done (x : Core) (tag count : ℕ) : Type 0 where
  pub flight : Flight
  pub found : flight_of x.flights tag ≡ Some flight
  pub counted : flight.transfer.count ≡ count
  pub done : is_finished flight ≡ true
  pub out : IsOut (x.halves flight.transfer.fast flight.transfer.half)

pub wait_finished : (rooms : List Room) (x : Core) (m : Memory) (t : Tied rooms x m) (tag count : ℕ) → WaitIn x tag count → (s : Transfer) → record_of tag m.records.items ≡ Some s → s.count ≡ count → Done x tag count
wait_finished rooms x m t tag count w s e same =
    let r = recorded x tag s (ap (record_of tag) (sym t.records) ∙ e) in
    let k : r.flight.transfer.count ≡ count = ap (λ (s : Transfer). s.count) r.is ∙ same in
    record { flight = r.flight; found = r.found; counted = k; done = finished r.flight count k (ap (λ o. holds_up o count) (sym r.found) ∙ w.passes); out = w.out r.flight r.found }
