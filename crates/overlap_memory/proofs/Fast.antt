-- Loads and stores of cells of halves.
use Rattle.std.proofs.Common.{◌≡◌, ℕ, ℤ, pos, ◌<◌, ◌≤◌, subst, Bool, true, false, List, length, set, sym, refl, ap, ◌∙◌, eq-eqb, arith}
use Rattle.std.specs.Prelude.{vec_capacity, ◌&&◌, Option, Some, None, Ok, Err, nat_eq, slice_get, slice_index_or}
use Rattle.std.proofs.lemmas.Bool.{and_parts}
use Rattle.std.proofs.lemmas.Option.{get_or_from_slice_get}
use native.Mathlib.Decide.{ℕ_discrete}
use Rattle.bus_model.specs.declared.step.FaultKind.TheVariants.{Touched}
use Rattle.bus_model.specs.declared.transfer.Transfer.{Transfer}
use Rattle.fast_halves.specs.Shape.{here, away}
use Rattle.bus_model.specs.Engines.{started_of}
use Rattle.bus_model.specs.Ledger.{HalvesAway}
use Rattle.tag_table.specs.Rule.{started_at}
use Rattle.tag_table.specs.Shapes.{BusShape, ComputeShape, IsIdle}
use Rattle.prompt_semantics.proofs.Laws.{half_same as prompt_half_same, half_other as prompt_half_other}
use Rattle.overlap_memory.proofs.Changed.{changed, changed_length, half_same, half_other, cells_same, halves_same}
use Rattle.direct_meaning.specs.Action.{Fast}
use Rattle.direct_meaning.specs.Direct.{End, keep}
use Rattle.prompt_semantics.specs.Device.{Device, is_away, record_of, put_half}
use Rattle.prompt_semantics.specs.Prompt.{prompt_store}
use Rattle.overlap_memory.specs.declared.memory.Memory.{Memory}
use Rattle.overlap_memory.specs.Tied.{Tied, FastShape, HasCells, Follows, Gives, half_at, memref_at, tag_of, with_list, lists_of, how_many}
use Rattle.overlap_memory.proofs.Lists.{both_ways, none_some, record_of_started, started_of_record, any_none, any_found, started_in, started_by}
use Rattle.overlap_memory.proofs.Slow.{goes_on, stops}

both_true : (a b : Bool) → a ≡ true → b ≡ true → (a && b) ≡ true
both_true a b p q = cc

same_number : (a b : ℕ) → nat_eq a b ≡ true → a ≡ b
same_number a b e = grind (arith)

pub half_is : (a b m h : ℕ) → (nat_eq a m && nat_eq b h) ≡ true → (a ≡ m) × (b ≡ h)
half_is a b m h e = let p = and_parts (nat_eq a m) (nat_eq b h) e in (same_number a m p.0, same_number b h p.1)

pub other_half : (number half m h : ℕ) → (m ≡ number → h ≡ half → ⊥) → (nat_eq number m && nat_eq half h) ≡ false
other_half number half m h ne = by (nat_eq number m && nat_eq half h) refl
  where
    by : (b : Bool) → (nat_eq number m && nat_eq half h) ≡ b → (nat_eq number m && nat_eq half h) ≡ false
    by false e = e
    by true e = let p = half_is number half m h e in absurd (ne (sym p.0) (sym p.1))

same_here : (c d : List ℤ) → Some (here c) ≡ Some (here d) → c ≡ d
same_here c d e = cc

module _ (bus : BusShape) (shape : FastShape) (x : Memory) (y : Device) (a : Tied bus shape x y) where
  -- a half that isn't away is no outstanding transfer's
  pub not_away : (number half : ℕ) → tag_of (half_at x.halves.items number half) ≡ None → is_away y.outstanding number half ≡ false
  not_away number half is = by (is_away y.outstanding number half) refl
    where
      by : (b : Bool) → is_away y.outstanding number half ≡ b → is_away y.outstanding number half ≡ false
      by false e = e
      by true e =
          let f = any_found (λ t. nat_eq t.fast number && nat_eq t.half half) y.outstanding a.tags_apart e in
          let p = half_is f.transfer.fast f.transfer.half number half f.passes in
          absurd (none_some (tag_of (half_at x.halves.items number half)) f.transfer.tag is
          ((a.away number half f.transfer.tag).1 (with_list y.halves f.transfer, started_of_record y.halves y.outstanding f.transfer.tag f.transfer f.on_record, p.0, p.1)))

  pub is_out : (number half tag : ℕ) → tag_of (half_at x.halves.items number half) ≡ Some tag → is_away y.outstanding number half ≡ true
  is_out number half tag is = by (is_away y.outstanding number half) refl
    where
      by : (b : Bool) → is_away y.outstanding number half ≡ b → is_away y.outstanding number half ≡ true
      by true e = e
      by false e =
          let g = (a.away number half tag).0 is in
          let none = any_none (λ t. nat_eq t.fast number && nat_eq t.half half) y.outstanding tag g.0.transfer e (record_of_started y.halves y.outstanding tag g.0 g.1) in
          absurd (both_ways (nat_eq g.0.transfer.fast number && nat_eq g.0.transfer.half half)
          (both_true (nat_eq g.0.transfer.fast number) (nat_eq g.0.transfer.half half) (eq-eqb g.0.transfer.fast number g.2) (eq-eqb g.0.transfer.half half g.3)) none)

  module _ (number half cell : ℕ) where
    pub load_gives : HasCells shape y number half → (z : ℤ) (cells : List ℤ) → half_at x.halves.items number half ≡ Some (here cells) → slice_get cells cell ≡ Some z → Gives (Ok z) (Fast number half cell) y
    load_gives allocated z cells is at r =
        goes_on (is_away y.outstanding number half) Touched y _ (not_away number half (ap tag_of is))
        ∙ ap (λ z. End (record y { state = keep r z y.state })) (ap (λ l. slice_index_or l cell (pos 0)) (sym (a.here number half cells allocated is)) ∙ get_or_from_slice_get cells cell z (pos 0) at)

    pub load_faults : (tag : ℕ) → half_at x.halves.items number half ≡ Some (away tag) → Gives (Err Touched) (Fast number half cell) y
    load_faults tag is r = stops (is_away y.outstanding number half) Touched y _ (is_out number half tag (ap tag_of is))

    pub store_faults : (z : ℤ) (tag : ℕ) → half_at x.halves.items number half ≡ Some (away tag) → Follows bus shape (Err Touched) (prompt_store z (Fast number half cell) y) x
    store_faults z tag is = (y, stops (is_away y.outstanding number half) Touched y _ (is_out number half tag (ap tag_of is)), a)

    module _ (allocated : HasCells shape y number half) (z : ℤ) (cells : List ℤ) (is : half_at x.halves.items number half ≡ Some (here cells)) (there : number < length x.halves.items) (half_in : half < length (memref_at x.halves.items number).halves)
        (x' : Memory) (seat : x'.seat ≡ x.seat) (helper : x'.helper ≡ x.helper) (records : x'.records ≡ x.records) (live : x'.live ≡ x.live)
        (halves : x'.halves.items ≡ changed x.halves.items number half (here (set cells cell z)) there) where
      abbrev halves' : ℕ → ℕ → List ℤ
      halves' = put_half y.halves number half (set (y.halves number half) cell z)

      home : is_away y.outstanding number half ≡ false
      home = not_away number half (ap tag_of is)

      other : (m h : ℕ) → (m ≡ number → h ≡ half → ⊥) → halves' m h ≡ y.halves m h
      other m h ne = prompt_half_other y.halves number half m h (set (y.halves number half) cell z) (other_half number half m h ne)

      another_half : (u : ℕ) (g : Transfer) → record_of u y.outstanding ≡ Some g → g.fast ≡ number → g.half ≡ half → ⊥
      another_half u g r p q = both_ways (nat_eq g.fast number && nat_eq g.half half)
          (both_true (nat_eq g.fast number) (nat_eq g.half half) (eq-eqb g.fast number p) (eq-eqb g.half half q))
          (any_none (λ s. nat_eq s.fast number && nat_eq s.half half) y.outstanding u g home r)

      same_list : (u : ℕ) (o : Option Transfer) → record_of u y.outstanding ≡ o → started_in halves' o ≡ started_in y.halves o
      same_list u None e = refl
      same_list u (Some g) e = ap (λ l. Some record { transfer = g; list = l }) (other g.fast g.half (another_half u g e))

      lists : (u : ℕ) → started_of (lists_of halves' y.outstanding) u ≡ started_of (lists_of y.halves y.outstanding) u
      lists u = started_by halves' y.outstanding u ∙ same_list u (record_of u y.outstanding) refl ∙ sym (started_by y.halves y.outstanding u)

      own : half_at x'.halves.items number half ≡ Some (here (set cells cell z))
      own = ap (λ hs. half_at hs number half) halves ∙ half_same x.halves.items number half (here (set cells cell z)) there half_in

      elsewhere : (m h : ℕ) → (m ≡ number → h ≡ half → ⊥) → half_at x'.halves.items m h ≡ half_at x.halves.items m h
      elsewhere m h ne = ap (λ hs. half_at hs m h) halves ∙ half_other x.halves.items number half (here (set cells cell z)) there m h ne

      own_list : halves' number half ≡ set (y.halves number half) cell z
      own_list = prompt_half_same y.halves number half number half (set (y.halves number half) cell z) (both_true (nat_eq number number) (nat_eq half half) (eq-eqb number number refl) (eq-eqb half half refl))

      here_now : (m h : ℕ) (c : List ℤ) → length (halves' m h) ≡ shape.cells m → half_at x'.halves.items m h ≡ Some (here c) → c ≡ halves' m h
      here_now m h c room at = elim (ℕ_discrete m number) [
        | yes p ↦ elim (ℕ_discrete h half) [
          | yes q ↦ same_here c (set cells cell z) (sym at ∙ (λ k. half_at x'.halves.items (p k) (q k)) ∙ own) ∙ ap (λ l. set l cell z) (a.here number half cells allocated is) ∙ sym own_list ∙ (λ k. halves' (sym p k) (sym q k))
          | no ne ↦ let w : m ≡ number → h ≡ half → ⊥ = λ _ q. ne q in a.here m h c (ap (λ l. length l) (sym (other m h w)) ∙ room) (sym (elsewhere m h w) ∙ at) ∙ sym (other m h w)
        ]
        | no ne ↦ let w : m ≡ number → h ≡ half → ⊥ = λ p _. ne p in a.here m h c (ap (λ l. length l) (sym (other m h w)) ∙ room) (sym (elsewhere m h w) ∙ at) ∙ sym (other m h w)
      ]

      tag_now : (m h : ℕ) → tag_of (half_at x'.halves.items m h) ≡ tag_of (half_at x.halves.items m h)
      tag_now m h = elim (ℕ_discrete m number) [
        | yes p ↦ elim (ℕ_discrete h half) [
          | yes q ↦ (λ k. tag_of (half_at x'.halves.items (p k) (q k))) ∙ ap tag_of own ∙ sym (ap tag_of is) ∙ (λ k. tag_of (half_at x.halves.items (sym p k) (sym q k)))
          | no ne ↦ ap tag_of (elsewhere m h (λ _ q. ne q))
        ]
        | no ne ↦ ap tag_of (elsewhere m h (λ p _. ne p))
      ]

      pub store_follows : Follows bus shape (Ok tt) (prompt_store z (Fast number half cell) y) x'
      store_follows = (
        record y { halves = halves' },
        goes_on (is_away y.outstanding number half) Touched y _ home,
        record {
          seat = ap (λ (s : ComputeShape). s.id) seat ∙ a.seat;
          helper = subst (IsIdle bus.id) (sym helper) a.helper;
          tagged = ap (λ (s : ComputeShape). length s.tags) seat ∙ a.tagged;
          small = a.small;
          sized = a.sized ∙ sym (ap (λ (s : ComputeShape). length s.prompt) seat);
          slow = ap (λ (s : ComputeShape). s.prompt) seat ∙ a.slow;
          records = ap (λ rs. rs.items) records ∙ a.records;
          tags = λ u. ap (λ (s : ComputeShape). started_at s.tags u) seat ∙ a.tags u ∙ sym (lists u);
          tags_apart = a.tags_apart;
          placed = a.placed;
          memrefs = ap (λ hs. length hs) halves ∙ changed_length x.halves.items number half (here (set cells cell z)) there ∙ a.memrefs;
          cells = λ n. ap (λ hs. (memref_at hs n).cells) halves ∙ cells_same x.halves.items number half (here (set cells cell z)) there n ∙ a.cells n;
          halves = λ n. ap (λ hs. length (memref_at hs n).halves) halves ∙ halves_same x.halves.items number half (here (set cells cell z)) there n ∙ a.halves n;
          here = here_now;
          away = λ m h u. (
            (λ e. let g = (a.away m h u).0 (sym (tag_now m h) ∙ e) in (g.0, lists u ∙ g.1, g.2, g.3)),
            (λ g. tag_now m h ∙ (a.away m h u).1 (g.0, sym (lists u) ∙ g.1, g.2, g.3)),
          );
          allocated = a.allocated;
          rooms = λ u s r. ap (λ l. length l) (other s.fast s.half (another_half u s r)) ∙ a.rooms u s r ∙ sym (ap (λ hs. (memref_at hs s.fast).cells) halves ∙ cells_same x.halves.items number half (here (set cells cell z)) there s.fast);
          live = live ∙ a.live;
          counted = a.counted ∙ sym (ap (λ (s : ComputeShape). how_many s.tags) seat);
          room = subst (λ rs. bus.tags ≤ vec_capacity rs) (sym records) a.room;
        },
      )

    pub store_follows_as : HasCells shape y number half → (z w : ℤ) → w ≡ z → (cells : List ℤ) → half_at x.halves.items number half ≡ Some (here cells) → (there : number < length x.halves.items) → half < length (memref_at x.halves.items number).halves
        → (x' : Memory) → x'.seat ≡ x.seat → x'.helper ≡ x.helper → x'.records ≡ x.records → x'.live ≡ x.live
        → x'.halves.items ≡ changed x.halves.items number half (here (set cells cell w)) there → Follows bus shape (Ok tt) (prompt_store z (Fast number half cell) y) x'
    store_follows_as allocated z w e cells is there half_in x' s h r l halves = store_follows allocated z cells is there half_in x' s h r l (halves ∙ ap (λ v. changed x.halves.items number half (here (set cells cell v)) there) e)

-- a memory whose lists are the same is tied to the same
module _ (bus : BusShape) (shape : FastShape) (x : Memory) (y : Device) (a : Tied bus shape x y) (x' : Memory) (seat : x'.seat ≡ x.seat) (helper : x'.helper ≡ x.helper) (records : x'.records ≡ x.records) (live : x'.live ≡ x.live) (halves : x'.halves.items ≡ x.halves.items) where
  pub tied_again : Tied bus shape x' y
  tied_again = record {
    seat = ap (λ (s : ComputeShape). s.id) seat ∙ a.seat;
    helper = subst (IsIdle bus.id) (sym helper) a.helper;
    tagged = ap (λ (s : ComputeShape). length s.tags) seat ∙ a.tagged;
    small = a.small;
    sized = a.sized ∙ sym (ap (λ (s : ComputeShape). length s.prompt) seat);
    slow = ap (λ (s : ComputeShape). s.prompt) seat ∙ a.slow;
    records = ap (λ rs. rs.items) records ∙ a.records;
    tags = λ u. ap (λ (s : ComputeShape). started_at s.tags u) seat ∙ a.tags u;
    tags_apart = a.tags_apart;
    placed = a.placed;
    memrefs = ap (λ hs. length hs) halves ∙ a.memrefs;
    cells = λ n. ap (λ hs. (memref_at hs n).cells) halves ∙ a.cells n;
    halves = λ n. ap (λ hs. length (memref_at hs n).halves) halves ∙ a.halves n;
    here = λ m h c room e. a.here m h c room (ap (λ hs. half_at hs m h) (sym halves) ∙ e);
    away = subst (λ hs. HalvesAway (λ m h. tag_of (half_at hs m h)) (started_of (lists_of y.halves y.outstanding))) (sym halves) a.away;
    allocated = a.allocated;
    rooms = λ u s r. a.rooms u s r ∙ ap (λ hs. (memref_at hs s.fast).cells) (sym halves);
    live = live ∙ a.live;
    counted = a.counted ∙ sym (ap (λ (s : ComputeShape). how_many s.tags) seat);
    room = subst (λ rs. bus.tags ≤ vec_capacity rs) (sym records) a.room;
  }
