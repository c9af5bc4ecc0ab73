-- Loads and stores.
use Rattle.std.proofs.Common.{◌≡◌, ℕ, zero, suc, ℤ, pos, ◌<◌, ◌≤◌, Bool, true, false, List, [], ◌∷◌, length, set, get_or, arith, refl, sym, ap, ◌∙◌, subst, length-set, Ok, Err}
use Rattle.std.specs.Prelude.{Some, slice_get, slice_index_or, vec_capacity}
use Rattle.std.proofs.lemmas.Option.{get_or_from_slice_get}
use Rattle.bus_model.specs.declared.step.FaultKind.{FaultKind}
use Rattle.bus_model.specs.declared.step.FaultKind.TheVariants.{Race, Touched}
use Rattle.fast_halves.specs.Shape.{here, away}
use Rattle.direct_meaning.specs.Action.{Slow, Fast}
use Rattle.direct_meaning.specs.Direct.{Outcome, End, Fault, keep, write}
use Rattle.prompt_semantics.specs.Device.{load_races, store_races, put_half}
use Rattle.prompt_semantics.specs.Prompt.{refused}
use Rattle.run_parts.specs.Registered.{values_of}
use Rattle.prompt_laws.specs.Rooms.{Room, room_at}
use Rattle.order_meaning.specs.Machine.{Half, Here, Away, Core, transfers_of, load_half, store, store_half}
use Rattle.order_engines.specs.declared.flights.Flights.{Flights}
use Rattle.order_engines.specs.Flying.{flights_of}
use Rattle.order_engines.specs.Waiting.{IsFlights}
use Rattle.order_memory.specs.declared.memory.Memory.{Memory}
use Rattle.order_memory.specs.Halves.{memref_at, half_at, SameHalf, SameHalves}
use Rattle.order_memory.specs.Tied.{Tied, Follows, Gives}
use Rattle.order_memory.specs.Reaches.{IsLong, HalfIn}
use Rattle.order_memory.proofs.Changed.{changed}
use Rattle.order_memory.proofs.Halves.{put_both}

-- an element that is there, whatever stands for one that isn't
pub any_default : (xs : List ℤ) (k : ℕ) (d e : ℤ) → k < length xs → get_or xs k d ≡ get_or xs k e
any_default [] k d e lt = absurd (omega (arith, lt))
any_default (x ∷ xs) zero d e lt = refl
any_default (x ∷ xs) (suc k) d e lt = any_default xs k d e (omega (arith, lt))

-- a test that is true, and one that is false
pub stops : (b : Bool) (kind : FaultKind) (x : Core) (go : Outcome Core) → b ≡ true → refused b kind x go ≡ Fault kind x
stops b kind x go e = ap (λ b. refused b kind x go) e

pub goes_on : (b : Bool) (kind : FaultKind) (x : Core) (go : Outcome Core) → b ≡ false → refused b kind x go ≡ go
goes_on b kind x go e = ap (λ b. refused b kind x go) e

module _ (rooms : List Room) (x : Core) (m : Memory) (t : Tied rooms x m) where
  pub slow_races : (place : ℕ) → load_races m.records.items place ≡ true → Gives (Err Race) (Slow place) x
  slow_races place h r = stops (load_races (transfers_of x.flights) place) Race x _ (ap (λ ts. load_races ts place) (sym t.records) ∙ h)

  pub slow_gives : (place : ℕ) (z : ℤ) → load_races m.records.items place ≡ false → z ≡ slice_index_or m.slow.items place (pos 0) → Gives (Ok z) (Slow place) x
  slow_gives place z h e r =
      goes_on (load_races (transfers_of x.flights) place) Race x _ (ap (λ ts. load_races ts place) (sym t.records) ∙ h)
      ∙ ap (λ z. End (record x { state = keep r z x.state })) (ap (λ l. slice_index_or l place (pos 0)) t.slow ∙ sym e)

  pub fast_gives : (number half cell : ℕ) (d : List ℤ) (z : ℤ) → HalfIn rooms x number half → half_at m.halves.items number half ≡ Some (here d) → slice_get d cell ≡ Some z → Gives (Ok z) (Fast number half cell) x
  fast_gives number half cell d z i is at r = by (x.halves number half) (t.halves.same number half (here d) is) i.long
    where
      by : (o : Half) → SameHalf (room_at rooms number).cells o (here d) → IsLong (room_at rooms number).cells o → load_half r cell o x ≡ End (record x { state = keep r z x.state })
      by (Here c) same long = ap (λ z. End (record x { state = keep r z x.state })) (ap (λ l. slice_index_or l cell (pos 0)) (same long) ∙ get_or_from_slice_get d cell z (pos 0) at)
      by (Away u) same long = absurd same

  pub fast_faults : (number half cell tag : ℕ) → half_at m.halves.items number half ≡ Some (away tag) → Gives (Err Touched) (Fast number half cell) x
  fast_faults number half cell tag is r = by (x.halves number half) (t.halves.same number half (away tag) is)
    where
      by : (o : Half) → SameHalf (room_at rooms number).cells o (away tag) → load_half r cell o x ≡ Fault Touched x
      by (Here c) same = absurd same
      by (Away u) same = refl

  -- ---- stores

  pub store_races_here : (place : ℕ) (z : ℤ) → store_races m.records.items place ≡ true → Follows rooms (Err Race) (store z (Slow place) x) m
  store_races_here place z h = (x, stops (store_races (transfers_of x.flights) place) Race x _ (ap (λ ts. store_races ts place) (sym t.records) ∙ h), t)

  pub store_slow : (place : ℕ) (z : ℤ) (m' : Memory) → store_races m.records.items place ≡ false → m'.registers ≡ m.registers → m'.slow.items ≡ set m.slow.items place z → m'.halves ≡ m.halves → m'.records ≡ m.records → m'.flights ≡ m.flights → m'.live ≡ m.live
      → Follows rooms (Ok tt) (store z (Slow place) x) m'
  store_slow place z m' h registers slow halves records flights live = (
    record x { state = write place z x.state },
    goes_on (store_races (transfers_of x.flights) place) Race x _ (ap (λ ts. store_races ts place) (sym t.records) ∙ h),
    record {
      registers = t.registers ∙ ap values_of (sym registers);
      slow = ap (λ l. set l place z) t.slow ∙ sym slow;
      live = t.live ∙ sym live;
      flights = t.flights ∙ ap (λ (fs : Flights). flights_of fs.flying.items) (sym flights);
      records = ap (λ rs. rs.items) records ∙ t.records;
      halves = subst (λ hs. SameHalves rooms x.halves hs.items) (sym halves) t.halves;
      home = t.home;
      fly = subst (λ z. z) (λ k. IsFlights (sym (ap (λ l. length l) slow ∙ length-set m.slow.items place z) k) (sym flights k)) t.fly;
      room = subst (λ (fs : Flights). 65536 ≤ vec_capacity fs.flying) (sym flights) t.room;
      waiting_room = subst (λ (fs : Flights). 65537 ≤ vec_capacity fs.waiting) (sym flights) t.waiting_room;
      record_room = subst (λ rs. 65536 ≤ vec_capacity rs) (sym records) t.record_room;
    },
  )

  pub store_away : (number half cell tag : ℕ) (z : ℤ) → half_at m.halves.items number half ≡ Some (away tag) → store z (Fast number half cell) x ≡ Fault Touched x
  store_away number half cell tag z is = by (x.halves number half) (t.halves.same number half (away tag) is)
    where
      by : (o : Half) → SameHalf (room_at rooms number).cells o (away tag) → store_half z number half cell o x ≡ Fault Touched x
      by (Here c) same = absurd same
      by (Away u) same = refl

  -- the same with other halves that are the machine's, whose list may be put back
  pub with_halves : (H : ℕ → ℕ → Half) (m' : Memory) → SameHalves rooms H m'.halves.items → m'.registers ≡ m.registers → m'.slow ≡ m.slow → m'.records ≡ m.records → m'.flights ≡ m.flights → m'.live ≡ m.live
      → Tied rooms (record x { halves = H }) m'
  with_halves H m' halves registers slow records flights live = record {
    registers = t.registers ∙ ap values_of (sym registers);
    slow = t.slow ∙ ap (λ l. l.items) (sym slow);
    live = t.live ∙ sym live;
    flights = t.flights ∙ ap (λ (fs : Flights). flights_of fs.flying.items) (sym flights);
    records = ap (λ rs. rs.items) records ∙ t.records;
    halves = halves;
    home = t.home;
    fly = subst (λ z. z) (λ k. IsFlights (length (sym slow k).items) (sym flights k)) t.fly;
    room = subst (λ (fs : Flights). 65536 ≤ vec_capacity fs.flying) (sym flights) t.room;
    waiting_room = subst (λ (fs : Flights). 65537 ≤ vec_capacity fs.waiting) (sym flights) t.waiting_room;
    record_room = subst (λ rs. 65536 ≤ vec_capacity rs) (sym records) t.record_room;
  }

  pub store_fast : (number half cell : ℕ) (d : List ℤ) (z : ℤ) → HalfIn rooms x number half → half_at m.halves.items number half ≡ Some (here d) → (there : number < length m.halves.items) → half < length (memref_at m.halves.items number).halves
      → (m' : Memory) → m'.registers ≡ m.registers → m'.slow ≡ m.slow → m'.records ≡ m.records → m'.flights ≡ m.flights → m'.live ≡ m.live
      → m'.halves.items ≡ changed m.halves.items number half (here (set d cell z)) there → Follows rooms (Ok tt) (store z (Fast number half cell) x) m'
  store_fast number half cell d z i is there half_there m' registers slow records flights live halves = by (x.halves number half) refl (t.halves.same number half (here d) is) i.long
    where
      by : (o : Half) → x.halves number half ≡ o → SameHalf (room_at rooms number).cells o (here d) → IsLong (room_at rooms number).cells o → Follows rooms (Ok tt) (store z (Fast number half cell) x) m'
      by (Here c) p same long = (
        record x { halves = put_half x.halves number half (Here (set c cell z)) },
        ap (λ o. store_half z number half cell o x) p,
        with_halves (put_half x.halves number half (Here (set c cell z))) m'
            (subst (SameHalves rooms (put_half x.halves number half (Here (set c cell z)))) (sym halves)
            (put_both rooms x.halves m.halves.items t.halves number there half half_there (Here (set c cell z)) (here (set d cell z)) (λ _. ap (λ l. set l cell z) (same long))))
            registers slow records flights live,
      )
      by (Away u) p same long = absurd same
