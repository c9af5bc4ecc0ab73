-- A transfer that is taken back.
use Rattle.std.proofs.Common.{◌≡◌, ◌≢◌, ℕ, ℤ, ◌<◌, List, length, set, sym, refl, ap, ◌∙◌, arith, length-set, get_or-set_other, get_or-set_same}
use Rattle.std.specs.Prelude.{vec_capacity, Option, Some, None}
use Rattle.std.proofs.lemmas.Option.{slice_get_within}
use native.Mathlib.Decide.{ℕ_discrete}
use Rattle.bus_model.specs.declared.transfer.Transfer.{Transfer}
use Rattle.bus_model.specs.declared.transfer.Started.{Started}
use Rattle.bus_model.specs.Engines.{started_of}
use Rattle.bus_model.proofs.Halves.{halves_drop}
use Rattle.fast_halves.specs.Shape.{HalfShape, here, away}
use Rattle.tag_table.specs.Rule.{started_at}
use Rattle.tag_table.specs.Shapes.{BusShape, IsIdle}
use Rattle.prompt_semantics.specs.Device.{Device, record_of, without}
use Rattle.overlap_memory.specs.declared.memory.Memory.{Memory}
use Rattle.overlap_memory.specs.Tied.{Tied, FastShape, IsAllocated, HasCells, half_at, memref_at, tag_of, with_list, lists_of, how_many, IsPlaced}
use Rattle.overlap_memory.proofs.Lists.{none_some, same_some, started_in, started_by, started_of_record, record_without, record_gone, tags_without}
use Rattle.overlap_memory.proofs.Changed.{changed, changed_length, half_same, half_other, cells_same, halves_same, half_there}
use Rattle.overlap_memory.proofs.Counts.{started_below, count_stop, length_without, all_without}

-- a half with a tag is away
pub away_with : (o : Option HalfShape) (tag : ℕ) → tag_of o ≡ Some tag → o ≡ Some (away tag)
away_with None tag e = absurd (cc)
away_with (Some (here cells)) tag e = absurd (cc)
away_with (Some (away t)) tag e = ap (λ t. Some (away t)) (same_some t tag e)

same_here : (c d : List ℤ) → Some (here c) ≡ Some (here d) → c ≡ d
same_here c d e = cc

module _ (bus : BusShape) (shape : FastShape) (x : Memory) (y : Device) (a : Tied bus shape x y) (tag : ℕ) (t : Transfer) (on : record_of tag y.outstanding ≡ Some t) where
  abbrev was : ℕ → Option Started
  was = started_of (lists_of y.halves y.outstanding)

  was_started : was tag ≡ Some (with_list y.halves t)
  was_started = started_of_record y.halves y.outstanding tag t on

  pub seat_started : started_at x.seat.tags tag ≡ Some (with_list y.halves t)
  seat_started = a.tags tag ∙ was_started

  pub tag_below : tag < bus.tags
  tag_below = let lt = started_below x.seat.tags tag (with_list y.halves t) seat_started in let e = a.tagged in omega arith

  pub half_away : half_at x.halves.items t.fast t.half ≡ Some (away tag)
  half_away = away_with (half_at x.halves.items t.fast t.half) tag ((a.away t.fast t.half tag).1 (with_list y.halves t, was_started, refl, refl))

  pub memref_there : t.fast < length x.halves.items
  memref_there = half_there x.halves.items t.fast t.half (away tag) half_away

  pub half_in : t.half < length (memref_at x.halves.items t.fast).halves
  half_in = slice_get_within (memref_at x.halves.items t.fast).halves t.half (away tag) half_away

  module _ (x' : Memory) (cells : List ℤ) (cells_are : cells ≡ y.halves t.fast t.half)
      (id : x'.seat.id ≡ x.seat.id) (prompt : x'.seat.prompt ≡ x.seat.prompt) (tags : x'.seat.tags ≡ set x.seat.tags tag None) (helper : IsIdle bus.id x'.helper)
      (halves : x'.halves.items ≡ changed x.halves.items t.fast t.half (here cells) memref_there)
      (half_now : t.half < length (memref_at x.halves.items t.fast).halves)
      (records : x'.records.items ≡ without tag x.records.items) (live : x'.live ≡ x.live) (room : vec_capacity x'.records ≡ vec_capacity x.records) where
    abbrev waited : Device
    waited = record y { outstanding = without tag y.outstanding }

    abbrev is_now : ℕ → Option Started
    is_now = started_of (lists_of y.halves (without tag y.outstanding))

    gone : is_now tag ≡ None
    gone = started_by y.halves (without tag y.outstanding) tag ∙ ap (started_in y.halves) (record_gone y.outstanding tag a.tags_apart)

    others : (u : ℕ) → u ≢ tag → is_now u ≡ was u
    others u ne = started_by y.halves (without tag y.outstanding) u ∙ ap (started_in y.halves) (record_without y.outstanding tag u ne) ∙ sym (started_by y.halves y.outstanding u)

    own : half_at x'.halves.items t.fast t.half ≡ Some (here cells)
    own = ap (λ hs. half_at hs t.fast t.half) halves ∙ half_same x.halves.items t.fast t.half (here cells) memref_there half_now

    other : (m h : ℕ) → (m ≡ t.fast → h ≡ t.half → ⊥) → half_at x'.halves.items m h ≡ half_at x.halves.items m h
    other m h ne = ap (λ hs. half_at hs m h) halves ∙ half_other x.halves.items t.fast t.half (here cells) memref_there m h ne

    here_now : (m h : ℕ) (c : List ℤ) → HasCells shape y m h → half_at x'.halves.items m h ≡ Some (here c) → c ≡ y.halves m h
    here_now m h c allocated is = elim (ℕ_discrete m t.fast) [
      | yes p ↦ elim (ℕ_discrete h t.half) [
        | yes q ↦ same_here c cells (sym is ∙ (λ k. half_at x'.halves.items (p k) (q k)) ∙ own) ∙ cells_are ∙ (λ k. y.halves (sym p k) (sym q k))
        | no ne ↦ a.here m h c allocated (sym (other m h (λ _ q. ne q)) ∙ is)
      ]
      | no ne ↦ a.here m h c allocated (sym (other m h (λ p _. ne p)) ∙ is)
    ]

    tags_now : (u : ℕ) → started_at x'.seat.tags u ≡ is_now u
    tags_now u = ap (λ l. started_at l u) tags ∙ elim (ℕ_discrete u tag) [
      | yes e ↦ ap (started_at (set x.seat.tags tag None)) e ∙ get_or-set_same x.seat.tags tag None None (started_below x.seat.tags tag (with_list y.halves t) seat_started) ∙ sym (ap is_now e ∙ gone)
      | no ne ↦ get_or-set_other x.seat.tags tag u None None ne ∙ a.tags u ∙ sym (others u ne)
    ]

    rooms_now : (u : ℕ) (s : Transfer) → record_of u (without tag y.outstanding) ≡ Some s → length (y.halves s.fast s.half) ≡ (memref_at x'.halves.items s.fast).cells
    rooms_now u s r = elim (ℕ_discrete u tag) [
      | yes e ↦ absurd (none_some (record_of u (without tag y.outstanding)) s (ap (λ u. record_of u (without tag y.outstanding)) e ∙ record_gone y.outstanding tag a.tags_apart) r)
      | no ne ↦ a.rooms u s (sym (record_without y.outstanding tag u ne) ∙ r) ∙ sym (ap (λ hs. (memref_at hs s.fast).cells) halves ∙ cells_same x.halves.items t.fast t.half (here cells) memref_there s.fast)
    ]

    allocated_now : (u : ℕ) (s : Transfer) → record_of u (without tag y.outstanding) ≡ Some s → IsAllocated shape s.fast
    allocated_now u s r = elim (ℕ_discrete u tag) [
      | yes e ↦ absurd (none_some (record_of u (without tag y.outstanding)) s (ap (λ u. record_of u (without tag y.outstanding)) e ∙ record_gone y.outstanding tag a.tags_apart) r)
      | no ne ↦ a.allocated u s (sym (record_without y.outstanding tag u ne) ∙ r)
    ]

    pub taken_back : Tied bus shape x' waited
    taken_back = record {
      seat = id ∙ a.seat;
      helper = helper;
      tagged = ap (λ l. length l) tags ∙ length-set x.seat.tags tag None ∙ a.tagged;
      small = a.small;
      sized = a.sized ∙ ap (λ l. length l) (sym prompt);
      slow = prompt ∙ a.slow;
      records = records ∙ ap (without tag) a.records;
      tags = tags_now;
      tags_apart = tags_without y.outstanding tag a.tags_apart;
      placed = all_without (IsPlaced bus.words) y.outstanding tag a.placed;
      memrefs = ap (λ hs. length hs) halves ∙ changed_length x.halves.items t.fast t.half (here cells) memref_there ∙ a.memrefs;
      cells = λ n. ap (λ hs. (memref_at hs n).cells) halves ∙ cells_same x.halves.items t.fast t.half (here cells) memref_there n ∙ a.cells n;
      halves = λ n. ap (λ hs. length (memref_at hs n).halves) halves ∙ halves_same x.halves.items t.fast t.half (here cells) memref_there n ∙ a.halves n;
      here = here_now;
      away = halves_drop (λ m h. tag_of (half_at x.halves.items m h)) (λ m h. tag_of (half_at x'.halves.items m h)) was is_now a.away tag (with_list y.halves t) others
          (λ m h ne. ap tag_of (other m h ne)) was_started gone (ap tag_of own);
      allocated = allocated_now;
      rooms = rooms_now;
      live = live ∙ a.live;
      counted =
          let p = length_without y.outstanding tag t on in
          let q = count_stop x.seat.tags tag (with_list y.halves t) seat_started in
          let r = ap how_many tags in
          let s = a.counted in
          omega (arith, p, q, r, s);
      room = let e = room in let r = a.room in omega (arith, e, r);
    }
