-- Fast memrefs that are allocated and released.
use Rattle.std.proofs.Common.{◌≡◌, ◌≢◌, ℕ, ℤ, zero, suc, ◌+◌, ◌-◌, ◌<◌, ◌≤◌, subst, Bool, true, false, List, length, replicate, set, sym, refl, ap, ◌∙◌, eq-eqb, arith, All, get_or, length-set, get_or-set_other, get_or-set_same}
use Rattle.std.specs.Prelude.{vec_capacity, Option, Some, None, Ok, Err, nat_eq, nat_le, slice_get}
use Rattle.std.proofs.lemmas.Option.{slice_get-get_or}
use native.Mathlib.Decide.{ℕ_discrete}
use Rattle.int_ops.specs.Wrapped.{wrapped}
use Rattle.affine_ast.specs.declared.types.Element.{Element}
use Rattle.bus_model.specs.declared.step.FaultKind.TheVariants.{Capacity, Touched}
use Rattle.bus_model.specs.declared.transfer.Transfer.{Transfer}
use Rattle.bus_model.specs.declared.transfer.Started.{Started}
use Rattle.bus_model.specs.Engines.{started_of}
use Rattle.fast_halves.specs.Shape.{HalfShape, HalvesShape, here, away, IsHere}
use Rattle.tag_table.specs.Rule.{started_at}
use Rattle.tag_table.specs.Shapes.{BusShape, ComputeShape, IsIdle}
use Rattle.direct_meaning.specs.Static.{element_bits}
use Rattle.direct_meaning.specs.Actions.{half_cells}
use Rattle.direct_meaning.specs.Direct.{End}
use Rattle.prompt_semantics.specs.Device.{Device, record_of, has_away, put_halves, allocated, released, bytes_of, fresh_half}
use Rattle.prompt_semantics.specs.Prompt.{prompt_alloc, refused}
use Rattle.order_meaning.specs.Orderly.{with_room}
use Rattle.overlap_memory.specs.declared.memory.Memory.{Memory}
use Rattle.overlap_memory.specs.Tied.{Tied, FastShape, FollowsTo, with_allocated, with_released, no_halves, half_at, memref_at, tag_of, lists_of, how_many}
use Rattle.overlap_memory.proofs.Lists.{both_ways, if_true, if_false, none_some, started_in, started_by, record_of_started, any_none}
use Rattle.overlap_memory.proofs.Slow.{goes_on}

-- a number that isn't another
different : (a b : ℕ) → a ≢ b → nat_eq a b ≡ false
different a b ne = by (nat_eq a b) refl
  where
    by : (t : Bool) → nat_eq a b ≡ t → nat_eq a b ≡ false
    by false e = e
    by true e = let p : a ≡ b = grind (arith, e) in absurd (ne p)

with_room_other : (rooms : ℕ → Option ℕ) (number n : ℕ) (room : Option ℕ) → n ≢ number → with_room rooms number room n ≡ rooms n
with_room_other rooms number n room ne = if_false (nat_eq number n) room (rooms n) (different number n (λ e. ne (sym e)))

put_other : (halves : ℕ → ℕ → List ℤ) (number : ℕ) (new : List ℤ) (m h : ℕ) → m ≢ number → put_halves halves number new m h ≡ halves m h
unfolding put_halves
put_other halves number new m h ne = if_false (nat_eq number m) new (halves m h) (different number m (λ e. ne (sym e)))

put_own : (halves : ℕ → ℕ → List ℤ) (number : ℕ) (new : List ℤ) (h : ℕ) → put_halves halves number new number h ≡ new
unfolding put_halves
put_own halves number new h = if_true (nat_eq number number) new (halves number h) (eq-eqb number number refl)

-- what stands in a list of equal things
in_equals : (n : ℕ) (v : HalfShape) (k : ℕ) (w : HalfShape) → slice_get (replicate n v) k ≡ Some w → w ≡ v
in_equals zero v k w e = absurd (cc)
in_equals (suc n) v zero w e = cc
in_equals (suc n) v (suc k) w e = in_equals n v k w e

same_here : (c d : List ℤ) → here c ≡ here d → c ≡ d
same_here c d e = cc

away_here : (o : Option HalfShape) (tag : ℕ) (c : List ℤ) → tag_of o ≡ Some tag → ((w : HalfShape) → o ≡ Some w → w ≡ here c) → ⊥
away_here None tag c e all = none_some None tag refl e
away_here (Some (here d)) tag c e all = none_some None tag refl e
away_here (Some (away u)) tag c e all = let p : away u ≡ here c = all (away u) refl in absurd (cc)

module _ (bus : BusShape) (shape : FastShape) (x : Memory) (y : Device) (a : Tied bus shape x y) (number : ℕ) where
  -- no outstanding transfer is one of a memref that isn't allocated
  pub elsewhere : shape.rooms number ≡ None → (u : ℕ) (s : Transfer) → record_of u y.outstanding ≡ Some s → s.fast ≢ number
  elsewhere free u s r e = none_some (shape.rooms number) (shape.cells s.fast) free (sym (ap shape.rooms e) ∙ a.allocated u s r)

  started_elsewhere : shape.rooms number ≡ None → (u : ℕ) (st : Started) → started_of (lists_of y.halves y.outstanding) u ≡ Some st → st.transfer.fast ≢ number
  started_elsewhere free u st g = elsewhere free u st.transfer (record_of_started y.halves y.outstanding u st g)

  -- each of its halves is here
  pub all_here : shape.rooms number ≡ None → All IsHere (memref_at x.halves.items number).halves
  all_here free = λ k d lt. by k (get_or (memref_at x.halves.items number).halves k d) (slice_get-get_or (memref_at x.halves.items number).halves k d lt)
    where
      by : (k : ℕ) (v : HalfShape) → slice_get (memref_at x.halves.items number).halves k ≡ Some v → IsHere v
      by k (here c) e = tt
      by k (away tag) e = let g = (a.away number k tag).0 (ap tag_of e) in started_elsewhere free tag g.0 g.1 g.2

  module _ (free : shape.rooms number ≡ None) (z filler : ℤ) (element : Element) (sizes : List ℕ) (bytes : ℕ) (many : bytes ≡ bytes_of element sizes)
      (is : filler ≡ wrapped (element_bits element) z) (room : shape.cells number ≡ half_cells sizes) (there : number < length x.halves.items)
      (x' : Memory) (seat : x'.seat ≡ x.seat) (helper : x'.helper ≡ x.helper) (records : x'.records ≡ x.records) (live : x'.live ≡ x.live + bytes)
      (m' : HalvesShape) (same : m'.cells ≡ (memref_at x.halves.items number).cells)
      (fresh : m'.halves ≡ replicate (length (memref_at x.halves.items number).halves) (here (replicate (memref_at x.halves.items number).cells filler)))
      (halves : x'.halves.items ≡ set x.halves.items number m') where
    abbrev new : List ℤ
    new = fresh_half z element sizes

    abbrev halves' : ℕ → ℕ → List ℤ
    halves' = put_halves y.halves number new

    filled : replicate (memref_at x.halves.items number).cells filler ≡ new
    filled = λ k. replicate ((a.cells number ∙ room) k) (is k)

    own : memref_at x'.halves.items number ≡ m'
    own = ap (λ hs. memref_at hs number) halves ∙ get_or-set_same x.halves.items number m' no_halves there

    other : (n : ℕ) → n ≢ number → memref_at x'.halves.items n ≡ memref_at x.halves.items n
    other n ne = ap (λ hs. memref_at hs n) halves ∙ get_or-set_other x.halves.items number n m' no_halves ne

    own_half : (h : ℕ) (w : HalfShape) → half_at x'.halves.items number h ≡ Some w → w ≡ here new
    own_half h w e = in_equals (length (memref_at x.halves.items number).halves) (here (replicate (memref_at x.halves.items number).cells filler)) h w
        (sym (ap (λ hs. slice_get hs h) (ap (λ (m : HalvesShape). m.halves) own ∙ fresh)) ∙ e) ∙ ap (λ c. here c) filled

    same_list : (u : ℕ) (o : Option Transfer) → record_of u y.outstanding ≡ o → started_in halves' o ≡ started_in y.halves o
    same_list u None e = refl
    same_list u (Some g) e = ap (λ l. Some record { transfer = g; list = l }) (put_other y.halves number new g.fast g.half (elsewhere free u g e))

    lists : (u : ℕ) → started_of (lists_of halves' y.outstanding) u ≡ started_of (lists_of y.halves y.outstanding) u
    lists u = started_by halves' y.outstanding u ∙ same_list u (record_of u y.outstanding) refl ∙ sym (started_by y.halves y.outstanding u)

    here_now : (m h : ℕ) (c : List ℤ) → length (halves' m h) ≡ shape.cells m → half_at x'.halves.items m h ≡ Some (here c) → c ≡ halves' m h
    here_now m h c allocated at = elim (ℕ_discrete m number) [
      | yes e ↦ same_here c new (own_half h (here c) (sym (ap (λ n. half_at x'.halves.items n h) e) ∙ at)) ∙ sym (ap (λ n. halves' n h) e ∙ put_own y.halves number new h)
      | no ne ↦ a.here m h c (ap (λ l. length l) (sym (put_other y.halves number new m h ne)) ∙ allocated) (sym (ap (λ (q : HalvesShape). slice_get q.halves h) (other m ne)) ∙ at)
          ∙ sym (put_other y.halves number new m h ne)
    ]

    away_now : (m h u : ℕ) → (tag_of (half_at x'.halves.items m h) ≡ Some u → (st : Started) × (started_of (lists_of halves' y.outstanding) u ≡ Some st) × (st.transfer.fast ≡ m) × (st.transfer.half ≡ h))
        × (((st : Started) × (started_of (lists_of halves' y.outstanding) u ≡ Some st) × (st.transfer.fast ≡ m) × (st.transfer.half ≡ h)) → tag_of (half_at x'.halves.items m h) ≡ Some u)
    away_now m h u = elim (ℕ_discrete m number) [
      | yes e ↦ (
        (λ q. absurd (away_here (half_at x'.halves.items number h) u new (sym (ap (λ n. tag_of (half_at x'.halves.items n h)) e) ∙ q) (own_half h))),
        (λ g. absurd (started_elsewhere free u g.0 (sym (lists u) ∙ g.1) (g.2 ∙ e))),
      )
      | no ne ↦ let t = ap (λ (q : HalvesShape). tag_of (slice_get q.halves h)) (other m ne) in (
        (λ q. let g = (a.away m h u).0 (sym t ∙ q) in (g.0, lists u ∙ g.1, g.2, g.3)),
        (λ g. t ∙ (a.away m h u).1 (g.0, sym (lists u) ∙ g.1, g.2, g.3)),
      )
    ]

    cells_now : (n : ℕ) → (memref_at x'.halves.items n).cells ≡ (memref_at x.halves.items n).cells
    cells_now n = elim (ℕ_discrete n number) [
      | yes e ↦ ap (λ n. (memref_at x'.halves.items n).cells) e ∙ ap (λ (m : HalvesShape). m.cells) own ∙ same ∙ sym (ap (λ n. (memref_at x.halves.items n).cells) e)
      | no ne ↦ ap (λ (m : HalvesShape). m.cells) (other n ne)
    ]

    as_many : (n : ℕ) (v : HalfShape) → length (replicate n v) ≡ n
    as_many zero v = refl
    as_many (suc n) v = ap suc (as_many n v)

    halves_now : (n : ℕ) → length (memref_at x'.halves.items n).halves ≡ length (memref_at x.halves.items n).halves
    halves_now n = elim (ℕ_discrete n number) [
      | yes e ↦ ap (λ n. length (memref_at x'.halves.items n).halves) e ∙ ap (λ (m : HalvesShape). length m.halves) own ∙ ap (λ hs. length hs) fresh ∙ as_many _ _ ∙ sym (ap (λ n. length (memref_at x.halves.items n).halves) e)
      | no ne ↦ ap (λ (m : HalvesShape). length m.halves) (other n ne)
    ]

    pub allocated_tied : Tied bus (with_allocated shape number) x' (allocated z number element sizes y)
    allocated_tied = record {
      seat = ap (λ (s : ComputeShape). s.id) seat ∙ a.seat;
      helper = subst (IsIdle bus.id) (sym helper) a.helper;
      tagged = ap (λ (s : ComputeShape). length s.tags) seat ∙ a.tagged;
      small = a.small;
      sized = a.sized ∙ sym (ap (λ (s : ComputeShape). length s.prompt) seat);
      slow = ap (λ (s : ComputeShape). s.prompt) seat ∙ a.slow;
      records = ap (λ rs. rs.items) records ∙ a.records;
      tags = λ u. ap (λ (s : ComputeShape). started_at s.tags u) seat ∙ a.tags u ∙ sym (lists u);
      tags_apart = a.tags_apart;
      placed = a.placed;
      memrefs = ap (λ hs. length hs) halves ∙ length-set x.halves.items number m' ∙ a.memrefs;
      cells = λ n. cells_now n ∙ a.cells n;
      halves = λ n. halves_now n ∙ a.halves n;
      here = here_now;
      away = away_now;
      allocated = λ u s r. with_room_other shape.rooms number s.fast (Some (shape.cells number)) (elsewhere free u s r) ∙ a.allocated u s r;
      rooms = λ u s r. ap (λ l. length l) (put_other y.halves number new s.fast s.half (elsewhere free u s r)) ∙ a.rooms u s r ∙ sym (cells_now s.fast);
      live = live ∙ (λ k. a.live k + many k);
      counted = a.counted ∙ sym (ap (λ (s : ComputeShape). how_many s.tags) seat);
      room = subst (λ rs. bus.tags ≤ vec_capacity rs) (sym records) a.room;
    }

    pub allocate_follows : (capacity : ℕ) → x.live + bytes ≤ capacity → FollowsTo bus shape (with_allocated shape number) (Ok tt) (prompt_alloc z capacity number element sizes y) x'
    allocate_follows capacity fits = (
      allocated z number element sizes y,
      if_true (nat_le (y.live + bytes_of element sizes) capacity) (End (allocated z number element sizes y)) _ (let e : x.live + bytes ≡ y.live + bytes_of element sizes = λ k. a.live k + many k in grind (arith, e, fits)),
      allocated_tied,
    )

  pub allocate_faults : (z : ℤ) (element : Element) (sizes : List ℕ) (bytes capacity : ℕ) → bytes ≡ bytes_of element sizes → capacity < x.live + bytes → FollowsTo bus shape (with_allocated shape number) (Err Capacity) (prompt_alloc z capacity number element sizes y) x
  allocate_faults z element sizes bytes capacity many over = (
    y,
    if_false (nat_le (y.live + bytes_of element sizes) capacity) (End (allocated z number element sizes y)) _ (let e : x.live + bytes ≡ y.live + bytes_of element sizes = λ k. a.live k + many k in grind (arith, e, over)),
    a,
  )

  -- ---- a release

  no_away : has_away y.outstanding number ≡ false → (u : ℕ) (s : Transfer) → record_of u y.outstanding ≡ Some s → s.fast ≢ number
  no_away none u s r e = both_ways (nat_eq s.fast number) (eq-eqb s.fast number e) (any_none (λ t. nat_eq t.fast number) y.outstanding u s none r)

  pub release_follows : (element : Element) (sizes : List ℕ) (bytes live' : ℕ) → bytes ≡ bytes_of element sizes → has_away x.records.items number ≡ false → live' ≡ x.live - bytes
      → FollowsTo bus shape (with_released shape number) (Ok tt) (refused (has_away y.outstanding number) Touched y (End (released element sizes y))) (record x { live = live' })
  release_follows element sizes bytes live' many none live =
      let home = sym (ap (λ ts. has_away ts number) a.records) ∙ none in (
        released element sizes y,
        goes_on (has_away y.outstanding number) Touched y _ home,
        record {
          seat = a.seat;
          helper = a.helper;
          tagged = a.tagged;
          small = a.small;
          sized = a.sized;
          slow = a.slow;
          records = a.records;
          tags = a.tags;
          tags_apart = a.tags_apart;
          placed = a.placed;
          memrefs = a.memrefs;
          cells = a.cells;
          halves = a.halves;
          here = a.here;
          away = a.away;
          allocated = λ u s r. with_room_other shape.rooms number s.fast None (no_away home u s r) ∙ a.allocated u s r;
          rooms = a.rooms;
          live = live ∙ (λ k. a.live k - many k);
          counted = a.counted;
          room = a.room;
        },
      )
