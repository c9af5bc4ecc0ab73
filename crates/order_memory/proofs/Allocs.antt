-- Allocations and releases.
use Rattle.std.proofs.Common.{◌≡◌, ℕ, ℤ, ◌+◌, ◌-◌, ◌<◌, ◌≤◌, Bool, true, false, List, length, replicate, set, get_or, refl, sym, ap, ◌∙◌, subst, arith, All, Ok, Err}
use Rattle.std.specs.Prelude.{Some, nat_le, slice_get, vec_capacity, if◌then◌else◌}
use Rattle.std.proofs.lemmas.Bool.{le-leb, leb-true}
use Rattle.std.proofs.lemmas.Option.{slice_get-get_or}
use Rattle.affine_ast.specs.declared.types.Element.{Element}
use Rattle.affine_ast.specs.Sizes.{element_bits}
use Rattle.int_ops.specs.Wrapped.{wrapped}
use Rattle.bus_model.specs.declared.step.FaultKind.TheVariants.{Capacity, Touched, Tag}
use Rattle.fast_halves.specs.Shape.{HalfShape, HalvesShape, here, away, IsHere}
use Rattle.direct_meaning.specs.Direct.{End, Fault}
use Rattle.prompt_semantics.specs.Device.{bytes_of, fresh_half, has_away, has_started, put_halves}
use Rattle.run_parts.specs.Registered.{values_of}
use Rattle.prompt_laws.specs.Rooms.{Room, room_at, room_of}
use Rattle.order_meaning.specs.Machine.{Half, Here, Away, Core, transfers_of, allocate}
use Rattle.order_engines.specs.declared.flights.Flights.{Flights}
use Rattle.order_engines.specs.Flying.{flights_of}
use Rattle.order_engines.specs.Waiting.{IsFlights}
use Rattle.order_memory.specs.declared.memory.Memory.{Memory}
use Rattle.order_memory.specs.Halves.{memref_at, SameHalf, SameHalves}
use Rattle.order_memory.specs.Parts.{released, tags_released}
use Rattle.order_memory.specs.Tied.{Tied, Follows}
use Rattle.order_memory.specs.Reaches.{IsHome}
use Rattle.order_memory.proofs.Halves.{fresh_both}
use Rattle.order_memory.proofs.Loads.{stops, goes_on}

module _ (rooms : List Room) (x : Core) (m : Memory) (t : Tied rooms x m) where
  -- halves that the machine has here, the code has here
  pub all_here : (number : ℕ) → ((half : ℕ) → IsHome (x.halves number half)) → All IsHere (memref_at m.halves.items number).halves
  all_here number home = λ k d lt. by k (get_or (memref_at m.halves.items number).halves k d) (slice_get-get_or (memref_at m.halves.items number).halves k d lt)
    where
      both : (o : Half) (tag : ℕ) → IsHome o → SameHalf (room_at rooms number).cells o (away tag) → ⊥
      both (Here c) tag h s = s
      both (Away u) tag h s = h

      by : (k : ℕ) (v : HalfShape) → slice_get (memref_at m.halves.items number).halves k ≡ Some v → IsHere v
      by k (here c) e = tt
      by k (away tag) e = absurd (both (x.halves number k) tag (home k) (t.halves.same number k (away tag) e))

  pub with_live : (live : ℕ) (H : ℕ → ℕ → Half) (m' : Memory) → SameHalves rooms H m'.halves.items → m'.live ≡ live → m'.registers ≡ m.registers → m'.slow ≡ m.slow → m'.records ≡ m.records → m'.flights ≡ m.flights
      → Tied rooms (record x { live = live; halves = H }) m'
  with_live live H m' halves is registers slow records flights = record {
    registers = t.registers ∙ ap values_of (sym registers);
    slow = t.slow ∙ ap (λ l. l.items) (sym slow);
    live = sym is;
    flights = t.flights ∙ ap (λ (fs : Flights). flights_of fs.flying.items) (sym flights);
    records = ap (λ rs. rs.items) records ∙ t.records;
    halves = halves;
    home = t.home;
    fly = subst (λ z. z) (λ k. IsFlights (length (sym slow k).items) (sym flights k)) t.fly;
    room = subst (λ (fs : Flights). 65536 ≤ vec_capacity fs.flying) (sym flights) t.room;
    waiting_room = subst (λ (fs : Flights). 65537 ≤ vec_capacity fs.waiting) (sym flights) t.waiting_room;
    record_room = subst (λ rs. 65536 ≤ vec_capacity rs) (sym records) t.record_room;
  }

  module _ (number : ℕ) (element : Element) (sizes : List ℕ) (filler : ℤ) (capacity : ℕ) (room : room_at rooms number ≡ room_of element sizes) where
    pub allocates : (there : number < length m.halves.items) (value : ℤ) → value ≡ wrapped (element_bits element) filler → (bytes : ℕ) → bytes ≡ bytes_of element sizes → m.live + bytes ≤ capacity
        → (w : HalvesShape) → w.cells ≡ (memref_at m.halves.items number).cells → w.halves ≡ replicate (length (memref_at m.halves.items number).halves) (here (replicate (memref_at m.halves.items number).cells value))
        → (m' : Memory) → m'.halves.items ≡ set m.halves.items number w → m'.live ≡ m.live + bytes → m'.registers ≡ m.registers → m'.slow ≡ m.slow → m'.records ≡ m.records → m'.flights ≡ m.flights
        → Follows rooms (Ok tt) (allocate filler capacity number element sizes x) m'
    allocates there value is bytes many fits w cells halves m' set_is live registers slow records flights =
        let new : ℕ = x.live + bytes_of element sizes in
        let sum : m.live + bytes ≡ new = λ k. sym t.live k + many k in
        let fresh : replicate (memref_at m.halves.items number).cells value ≡ fresh_half filler element sizes =
        λ k. replicate ((t.halves.cells number ∙ ap (λ (r : Room). r.cells) room) k) (is k) in
        let H : ℕ → ℕ → Half = put_halves x.halves number (Here (fresh_half filler element sizes)) in (
          record x { halves = H; live = new },
          ap (λ b. if b then End (record x { halves = H; live = new }) else Fault Capacity x) (le-leb new capacity (subst (λ n. n ≤ capacity) sum fits)),
          with_live new H m'
              (subst (SameHalves rooms H) (sym set_is) (fresh_both rooms x.halves m.halves.items t.halves number there w (fresh_half filler element sizes) cells (halves ∙ ap (λ c. replicate (length (memref_at m.halves.items number).halves) (here c)) fresh)))
              (live ∙ sum) registers slow records flights,
        )

    pub allocate_faults : (bytes : ℕ) → bytes ≡ bytes_of element sizes → capacity < m.live + bytes → Follows rooms (Err Capacity) (allocate filler capacity number element sizes x) m
    allocate_faults bytes many over = (x, by (nat_le (x.live + bytes_of element sizes) capacity) refl, t)
      where
        by : (b : Bool) → nat_le (x.live + bytes_of element sizes) capacity ≡ b → allocate filler capacity number element sizes x ≡ Fault Capacity x
        by true e =
            let sum : m.live + bytes ≡ x.live + bytes_of element sizes = λ k. sym t.live k + many k in
            let l = leb-true (x.live + bytes_of element sizes) capacity e in absurd (omega (arith, l, over, sum))
        by false e = ap (λ b. if b then End (record x { halves = put_halves x.halves number (Here (fresh_half filler element sizes)); live = x.live + bytes_of element sizes }) else Fault Capacity x) e

  pub release_touched : (number : ℕ) (element : Element) (sizes : List ℕ) → has_away m.records.items number ≡ true → Follows rooms (Err Touched) (released number element sizes x) m
  release_touched number element sizes h = (x, stops (has_away (transfers_of x.flights) number) Touched x _ (ap (λ ts. has_away ts number) (sym t.records) ∙ h), t)

  pub releases : (number : ℕ) (element : Element) (sizes : List ℕ) → has_away m.records.items number ≡ false → (m' : Memory) → m'.live ≡ m.live - bytes_of element sizes → m'.halves ≡ m.halves
      → m'.registers ≡ m.registers → m'.slow ≡ m.slow → m'.records ≡ m.records → m'.flights ≡ m.flights → Follows rooms (Ok tt) (released number element sizes x) m'
  releases number element sizes h m' live halves registers slow records flights = (
    record x { live = x.live - bytes_of element sizes },
    goes_on (has_away (transfers_of x.flights) number) Touched x _ (ap (λ ts. has_away ts number) (sym t.records) ∙ h),
    with_live (x.live - bytes_of element sizes) x.halves m' (subst (λ hs. SameHalves rooms x.halves hs.items) (sym halves) t.halves) (live ∙ ap (λ n. n - bytes_of element sizes) (sym t.live)) registers slow records flights,
  )

  pub tags_started : (first count : ℕ) → has_started m.records.items first count ≡ true → Follows rooms (Err Tag) (tags_released first count x) m
  tags_started first count h = (x, stops (has_started (transfers_of x.flights) first count) Tag x _ (ap (λ ts. has_started ts first count) (sym t.records) ∙ h), t)

  pub tags_idle : (first count : ℕ) → has_started m.records.items first count ≡ false → Follows rooms (Ok tt) (tags_released first count x) m
  tags_idle first count h = (x, goes_on (has_started (transfers_of x.flights) first count) Tag x _ (ap (λ ts. has_started ts first count) (sym t.records) ∙ h), t)
