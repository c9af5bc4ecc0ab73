-- A transfer that is handed over.
use Rattle.std.proofs.Common.{◌≡◌, ◌≢◌, ◌⊎◌, inl, inr, ℕ, ℤ, ◌+◌, ◌<◌, ◌≤◌, Bool, true, false, List, [], ◌∷◌, ◌++◌, length, set, sym, refl, ap, ◌∙◌, arith, eq-eqb, subst, length-set, get_or-set_other, get_or-set_same}
use Rattle.std.specs.Prelude.{vec_capacity, ◌&&◌, Option, Some, None, nat_eq, if◌then◌else◌}
use Rattle.std.proofs.lemmas.List.{length_push}
use Rattle.std.proofs.lemmas.List.Elements.{All-append, All-cons}
use Rattle.std.proofs.lemmas.List.{length-map}
use Rattle.std.proofs.lemmas.List.Folds.{list_any_at}
use Rattle.std.proofs.lemmas.List.FromFn.{length-range_with_len, get_or-map-range_with_len}
use Rattle.std.specs.List.{range_with_len}
use native.Mathlib.Decide.{ℕ_discrete}
use Rattle.bus_model.specs.declared.transfer.Transfer.{Transfer}
use Rattle.bus_model.specs.declared.transfer.Started.{Started}
use Rattle.bus_model.specs.Places.{slow_place, slow_places, meets}
use Rattle.bus_model.proofs.Places.{meets_at}
use Rattle.direct_meaning.specs.Transfers.{overlap}
use Rattle.tag_table.specs.declared.view.Parcel.{Parcel}
use Rattle.prompt_semantics.proofs.Laws.{half_same as prompt_half_same, half_other as prompt_half_other}
use Rattle.bus_model.specs.declared.step.FaultKind.TheVariants.{Tag, Touched, Race}
use Rattle.direct_meaning.specs.Direct.{End}
use Rattle.prompt_semantics.specs.Prompt.{prompt_start}
use Rattle.overlap_memory.proofs.Slow.{on_record, goes_on}
use Rattle.overlap_memory.proofs.Fast.{is_out, other_half}
use Rattle.bus_model.proofs.Copies.{length-first_in, length-first_out}
use Rattle.bus_model.specs.Copies.{moved_in, moved_out}
use Rattle.bus_model.specs.Engines.{started_of}
use Rattle.bus_model.proofs.Halves.{halves_start}
use Rattle.fast_halves.specs.Shape.{here, away}
use Rattle.tag_table.specs.Rule.{started_at}
use Rattle.tag_table.specs.Shapes.{BusShape, IsIdle, ComputeShape, MayStart, after_start, with_tag, with_prompt}
use Rattle.prompt_semantics.specs.Device.{Device, record_of, is_started, is_away, start_races, put_half, started, recorded, copied_in, copied_out}
use Rattle.overlap_memory.specs.declared.memory.Memory.{Memory}
use Rattle.overlap_memory.specs.Tied.{Tied, FastShape, IsAllocated, HasCells, CanStart, IsPlaced, half_at, memref_at, tag_of, with_list, lists_of, how_many}
use Rattle.overlap_memory.proofs.Lists.{both_ways, if_true, if_false, same_some, started_in, started_by, any_none, record_behind, record_before, tags_behind}
use Rattle.overlap_memory.proofs.Changed.{changed, changed_length, half_same, half_other, cells_same, halves_same}
use Rattle.overlap_memory.proofs.Counts.{count_start, count_less, not_started}

not_here : (tag : ℕ) (c : List ℤ) → Some (away tag) ≡ Some (here c) → ⊥
not_here tag c e = cc

both_true : (a b : Bool) → a ≡ true → b ≡ true → (a && b) ≡ true
both_true a b p q = cc

-- two transfers that share a place overlap
overlap_at : (o t : Transfer) (f e : ℕ) → f < o.count → e < t.count → slow_place o f ≡ slow_place t e → overlap o t ≡ true
overlap_at o t f e lf le same = list_any_at (meets t) (slow_places o) f 0 (omega (arith, length-map (range_with_len 0 o.count) (slow_place o), length-range_with_len 0 o.count))
    (ap (meets t) (get_or-map-range_with_len (slow_place o) 0 o.count f f 0 lf (omega arith)) ∙ meets_at t (slow_place o f) e le (sym same))

module _ (bus : BusShape) (shape : FastShape) (x : Memory) (y : Device) (a : Tied bus shape x y) (t : Transfer) (can : CanStart bus x t) where
  -- a start that doesn't race has no place of a transfer where one of the two writes
  start_apart : start_races y.outstanding t ≡ false → (u e f : ℕ) (b : Started) → started_at x.seat.tags u ≡ Some b → (t.incoming ≡ false) ⊎ (b.transfer.incoming ≡ false) → e < t.count → f < b.transfer.count → slow_place t e ≢ slow_place b.transfer f
  start_apart none u e f b has writes le lf same =
      let here : (if t.incoming then (if b.transfer.incoming then false else overlap b.transfer t) else overlap b.transfer t) ≡ false =
      any_none (λ o. (if t.incoming then (if o.incoming then false else overlap o t) else overlap o t)) y.outstanding u b.transfer none (on_record bus shape x y a u b has) in
      both_ways (overlap b.transfer t) (overlap_at b.transfer t f e lf le (sym same)) (by t.incoming b.transfer.incoming refl refl writes here)
    where
      by : (i j : Bool) → t.incoming ≡ i → b.transfer.incoming ≡ j → (t.incoming ≡ false) ⊎ (b.transfer.incoming ≡ false) → (if t.incoming then (if b.transfer.incoming then false else overlap b.transfer t) else overlap b.transfer t) ≡ false → overlap b.transfer t ≡ false
      by false j p q w h = sym (if_false t.incoming (if b.transfer.incoming then false else overlap b.transfer t) (overlap b.transfer t) p) ∙ h
      by true false p q w h = sym (if_true t.incoming (if b.transfer.incoming then false else overlap b.transfer t) (overlap b.transfer t) p ∙ if_false b.transfer.incoming false (overlap b.transfer t) q) ∙ h
      by true true p q (inl w) h = absurd (both_ways t.incoming p w)
      by true true p q (inr w) h = absurd (both_ways b.transfer.incoming q w)

  idle_seat : is_started y.outstanding t.tag ≡ false → started_at x.seat.tags t.tag ≡ None
  idle_seat idle = a.tags t.tag ∙ started_by y.halves y.outstanding t.tag ∙ ap (started_in y.halves) (not_started y.outstanding t.tag idle)

  pub has_room : is_started y.outstanding t.tag ≡ false → length x.records.items + 1 ≤ vec_capacity x.records
  has_room idle =
      let p = ap (λ l. length l) a.records in
      let q = count_less x.seat.tags t.tag (idle_seat idle) (let e = a.tagged in let lt = can.tag in omega (arith, e, lt)) in
      let r = a.counted in
      let s = a.tagged in
      let m = a.room in
      omega (arith, p, q, r, s, m)

  pub may_start : is_started y.outstanding t.tag ≡ false → start_races y.outstanding t ≡ false → (p : Parcel) → p.transfer ≡ t → p.moved ≡ 0 → length p.cells.items ≡ (memref_at x.halves.items t.fast).cells → MayStart bus.words x.seat.tags t.tag p
  may_start idle apart p is unmoved long =
      let holds : MayStart bus.words x.seat.tags t.tag (record { transfer = t; cells = p.cells; moved = 0 }) = record {
        idle = idle_seat idle;
        named = refl;
        unmoved = refl;
        some_count = can.some_count;
        whole_chunks = can.whole_chunks;
        wide = can.wide;
        some_chunk = can.some_chunk;
        within = can.within;
        inside = subst (λ n. t.offset + t.count ≤ n) (sym long) can.inside;
        clear = λ u e f b has writes le lf. start_apart apart u e f b has writes le lf;
      } in
      subst (λ (q : Transfer × ℕ). MayStart bus.words x.seat.tags t.tag (record { transfer = q.0; cells = p.cells; moved = q.1 })) (λ k. (sym is k, sym unmoved k)) holds

  -- a half that isn't away isn't out
  pub not_out : is_away y.outstanding t.fast t.half ≡ false → (tag : ℕ) → half_at x.halves.items t.fast t.half ≡ Some (away tag) → ⊥
  not_out home tag is = both_ways (is_away y.outstanding t.fast t.half) (is_out bus shape x y a t.fast t.half tag (ap tag_of is)) home

module _ (bus : BusShape) (shape : FastShape) (x : Memory) (y : Device) (a : Tied bus shape x y) (t : Transfer) (can : CanStart bus x t)
    (is_allocated : IsAllocated shape t.fast) (idle : is_started y.outstanding t.tag ≡ false) (home : is_away y.outstanding t.fast t.half ≡ false) where
  pub no_record : record_of t.tag y.outstanding ≡ None
  no_record = not_started y.outstanding t.tag idle

  abbrev was : ℕ → Option Started
  was = started_of (lists_of y.halves y.outstanding)

  pub was_idle : was t.tag ≡ None
  was_idle = started_by y.halves y.outstanding t.tag ∙ ap (started_in y.halves) no_record

  -- no outstanding transfer has the half
  pub another_half : (u : ℕ) (g : Transfer) → record_of u y.outstanding ≡ Some g → g.fast ≡ t.fast → g.half ≡ t.half → ⊥
  another_half u g r p q = both_ways (nat_eq g.fast t.fast && nat_eq g.half t.half)
      (both_true (nat_eq g.fast t.fast) (nat_eq g.half t.half) (eq-eqb g.fast t.fast p) (eq-eqb g.half t.half q))
      (any_none (λ s. nat_eq s.fast t.fast && nat_eq s.half t.half) y.outstanding u g home r)

  -- the prompt side's slow list and halves after it
  module _ (slow' : List ℤ) (halves' : ℕ → ℕ → List ℤ) (long : length slow' ≡ length y.state.slow)
      (other : (m h : ℕ) → (m ≡ t.fast → h ≡ t.half → ⊥) → halves' m h ≡ y.halves m h)
      (fits : length (halves' t.fast t.half) ≡ (memref_at x.halves.items t.fast).cells)
      (x' : Memory) (id : x'.seat.id ≡ x.seat.id) (prompt : x'.seat.prompt ≡ slow') (tags : x'.seat.tags ≡ set x.seat.tags t.tag (Some (with_list halves' t)))
      (helper : IsIdle bus.id x'.helper) (halves : x'.halves.items ≡ changed x.halves.items t.fast t.half (away t.tag) can.fast)
      (records : x'.records.items ≡ x.records.items ++ t ∷ []) (live : x'.live ≡ x.live) (room : vec_capacity x'.records ≡ vec_capacity x.records)
      (was_home : tag_of (half_at x.halves.items t.fast t.half) ≡ None) where
    abbrev behind : Device
    behind = record y { state = record y.state { slow = slow' }; halves = halves'; outstanding = y.outstanding ++ t ∷ []; engine_steps = y.engine_steps + (t.count + 2) }

    abbrev is_now : ℕ → Option Started
    is_now = started_of (lists_of halves' (y.outstanding ++ t ∷ []))

    now : is_now t.tag ≡ Some (with_list halves' t)
    now = started_by halves' (y.outstanding ++ t ∷ []) t.tag ∙ ap (started_in halves') (record_behind y.outstanding t no_record)

    same_list : (u : ℕ) (o : Option Transfer) → record_of u y.outstanding ≡ o → started_in halves' o ≡ started_in y.halves o
    same_list u None e = refl
    same_list u (Some g) e = ap (λ l. Some record { transfer = g; list = l }) (other g.fast g.half (another_half u g e))

    others : (u : ℕ) → u ≢ t.tag → is_now u ≡ was u
    others u ne = started_by halves' (y.outstanding ++ t ∷ []) u ∙ ap (started_in halves') (record_before y.outstanding t u (λ q. ne (sym q))) ∙ same_list u (record_of u y.outstanding) refl ∙ sym (started_by y.halves y.outstanding u)

    own : half_at x'.halves.items t.fast t.half ≡ Some (away t.tag)
    own = ap (λ hs. half_at hs t.fast t.half) halves ∙ half_same x.halves.items t.fast t.half (away t.tag) can.fast can.half

    elsewhere : (m h : ℕ) → (m ≡ t.fast → h ≡ t.half → ⊥) → half_at x'.halves.items m h ≡ half_at x.halves.items m h
    elsewhere m h ne = ap (λ hs. half_at hs m h) halves ∙ half_other x.halves.items t.fast t.half (away t.tag) can.fast m h ne

    here_now : (m h : ℕ) (c : List ℤ) → length (halves' m h) ≡ shape.cells m → half_at x'.halves.items m h ≡ Some (here c) → c ≡ halves' m h
    here_now m h c allocated is = elim (ℕ_discrete m t.fast) [
      | yes p ↦ elim (ℕ_discrete h t.half) [
        | yes q ↦ absurd (not_here t.tag c (sym ((λ k. half_at x'.halves.items (p k) (q k)) ∙ own) ∙ is))
        | no ne ↦ let w : m ≡ t.fast → h ≡ t.half → ⊥ = λ _ q. ne q in a.here m h c (ap (λ l. length l) (sym (other m h w)) ∙ allocated) (sym (elsewhere m h w) ∙ is) ∙ sym (other m h w)
      ]
      | no ne ↦ let w : m ≡ t.fast → h ≡ t.half → ⊥ = λ p _. ne p in a.here m h c (ap (λ l. length l) (sym (other m h w)) ∙ allocated) (sym (elsewhere m h w) ∙ is) ∙ sym (other m h w)
    ]

    tag_in : t.tag < length x.seat.tags
    tag_in = let e = a.tagged in let lt = can.tag in omega (arith, e, lt)

    tags_now : (u : ℕ) → started_at x'.seat.tags u ≡ is_now u
    tags_now u = ap (λ l. started_at l u) tags ∙ elim (ℕ_discrete u t.tag) [
      | yes e ↦ ap (started_at (set x.seat.tags t.tag (Some (with_list halves' t)))) e ∙ get_or-set_same x.seat.tags t.tag (Some (with_list halves' t)) None tag_in ∙ sym (ap is_now e ∙ now)
      | no ne ↦ get_or-set_other x.seat.tags t.tag u (Some (with_list halves' t)) None ne ∙ a.tags u ∙ sym (others u ne)
    ]

    rooms_now : (u : ℕ) (s : Transfer) → record_of u (y.outstanding ++ t ∷ []) ≡ Some s → length (halves' s.fast s.half) ≡ (memref_at x'.halves.items s.fast).cells
    rooms_now u s r = elim (ℕ_discrete u t.tag) [
      | yes e ↦ let k : t ≡ s = same_some t s (sym (record_behind y.outstanding t no_record) ∙ ap (λ u. record_of u (y.outstanding ++ t ∷ [])) (sym e) ∙ r) in
          ap (λ (s : Transfer). length (halves' s.fast s.half)) (sym k) ∙ fits ∙ sym (cells_now t.fast) ∙ ap (λ (s : Transfer). (memref_at x'.halves.items s.fast).cells) k
      | no ne ↦ let r' : record_of u y.outstanding ≡ Some s = sym (record_before y.outstanding t u (λ q. ne (sym q))) ∙ r in
          ap (λ l. length l) (other s.fast s.half (another_half u s r')) ∙ a.rooms u s r' ∙ sym (cells_now s.fast)
    ]
      where
        cells_now : (n : ℕ) → (memref_at x'.halves.items n).cells ≡ (memref_at x.halves.items n).cells
        cells_now n = ap (λ hs. (memref_at hs n).cells) halves ∙ cells_same x.halves.items t.fast t.half (away t.tag) can.fast n

    allocated_now : (u : ℕ) (s : Transfer) → record_of u (y.outstanding ++ t ∷ []) ≡ Some s → IsAllocated shape s.fast
    allocated_now u s r = elim (ℕ_discrete u t.tag) [
      | yes e ↦ let k : t ≡ s = same_some t s (sym (record_behind y.outstanding t no_record) ∙ ap (λ u. record_of u (y.outstanding ++ t ∷ [])) (sym e) ∙ r) in
          subst (λ (s : Transfer). IsAllocated shape s.fast) k is_allocated
      | no ne ↦ a.allocated u s (sym (record_before y.outstanding t u (λ q. ne (sym q))) ∙ r)
    ]

    pub begun : Tied bus shape x' behind
    begun = record {
      seat = id ∙ a.seat;
      helper = helper;
      tagged = ap (λ l. length l) tags ∙ length-set x.seat.tags t.tag (Some (with_list halves' t)) ∙ a.tagged;
      small = a.small;
      sized = a.sized ∙ ap (λ l. length l) a.slow ∙ sym long ∙ ap (λ l. length l) (sym prompt);
      slow = prompt;
      records = records ∙ ap (λ l. l ++ t ∷ []) a.records;
      tags = tags_now;
      tags_apart = tags_behind y.outstanding t a.tags_apart no_record;
      placed = All-append (IsPlaced bus.words) y.outstanding (t ∷ []) a.placed (All-cons (IsPlaced bus.words) t [] (record { some_chunk = can.some_chunk; within = can.within }) (λ k d lt. absurd (omega (arith, lt))));
      memrefs = ap (λ hs. length hs) halves ∙ changed_length x.halves.items t.fast t.half (away t.tag) can.fast ∙ a.memrefs;
      cells = λ n. ap (λ hs. (memref_at hs n).cells) halves ∙ cells_same x.halves.items t.fast t.half (away t.tag) can.fast n ∙ a.cells n;
      halves = λ n. ap (λ hs. length (memref_at hs n).halves) halves ∙ halves_same x.halves.items t.fast t.half (away t.tag) can.fast n ∙ a.halves n;
      here = here_now;
      away = halves_start (λ m h. tag_of (half_at x.halves.items m h)) (λ m h. tag_of (half_at x'.halves.items m h)) was is_now a.away t.tag (with_list halves' t) others
          (λ m h ne. ap tag_of (elsewhere m h ne)) was_idle now was_home (ap tag_of own);
      allocated = allocated_now;
      rooms = rooms_now;
      live = live ∙ a.live;
      counted =
          let p = length_push y.outstanding t in
          let q = count_start x.seat.tags t.tag (with_list halves' t) (a.tags t.tag ∙ was_idle) tag_in in
          let r = ap how_many tags in
          let s = a.counted in
          omega (arith, p, q, r, s);
      room = let e = room in let r = a.room in omega (arith, e, r);
    }

module _ (bus : BusShape) (shape : FastShape) (x : Memory) (before : FastShape) (k : Device) (b : Tied bus before x k) (y : Device) (a : Tied bus shape x y) (t : Transfer) (can : CanStart bus x t) (is_allocated : IsAllocated shape t.fast) (has : HasCells shape y t.fast t.half) (idle_k : is_started k.outstanding t.tag ≡ false) (home_k : is_away k.outstanding t.fast t.half ≡ false)
    (cells : List ℤ) (is : half_at x.halves.items t.fast t.half ≡ Some (here cells)) (whole : length cells ≡ (memref_at x.halves.items t.fast).cells)
    (x' : Memory) (seat : x'.seat ≡ after_start x.seat t.tag t cells) (helper : x'.helper ≡ x.helper) (halves : x'.halves.items ≡ changed x.halves.items t.fast t.half (away t.tag) can.fast)
    (records : x'.records.items ≡ x.records.items ++ t ∷ []) (live : x'.live ≡ x.live) (room : vec_capacity x'.records ≡ vec_capacity x.records) where
  same_outstanding : k.outstanding ≡ y.outstanding
  same_outstanding = sym b.records ∙ a.records

  idle : is_started y.outstanding t.tag ≡ false
  idle = sym (ap (λ ts. is_started ts t.tag) same_outstanding) ∙ idle_k

  home : is_away y.outstanding t.fast t.half ≡ false
  home = sym (ap (λ ts. is_away ts t.fast t.half) same_outstanding) ∙ home_k

  half : List ℤ
  half = y.halves t.fast t.half

  cells_are : cells ≡ y.halves t.fast t.half
  cells_are = a.here t.fast t.half cells has is

  abbrev new_half : List ℤ
  new_half = moved_in t y.state.slow (y.halves t.fast t.half)

  own_new : put_half y.halves t.fast t.half new_half t.fast t.half ≡ new_half
  own_new = prompt_half_same y.halves t.fast t.half t.fast t.half new_half (both_true (nat_eq t.fast t.fast) (nat_eq t.half t.half) (eq-eqb t.fast t.fast refl) (eq-eqb t.half t.half refl))

  into_half : x'.seat ≡ with_tag x.seat t.tag (Some record { transfer = t; list = moved_in t x.seat.prompt cells }) → Tied bus shape x' (recorded t (copied_in t y))
  into_half e = begun bus shape x y a t can is_allocated idle home y.state.slow (put_half y.halves t.fast t.half new_half) refl
      (λ m h ne. prompt_half_other y.halves t.fast t.half m h new_half (other_half t.fast t.half m h ne))
      (ap (λ l. length l) own_new ∙ length-first_in t y.state.slow (y.halves t.fast t.half) t.count ∙ ap (λ l. length l) (sym cells_are) ∙ whole)
      x' (ap (λ (s : ComputeShape). s.id) e) (ap (λ (s : ComputeShape). s.prompt) e ∙ a.slow)
      (ap (λ (s : ComputeShape). s.tags) e ∙ ap (λ l. set x.seat.tags t.tag (Some record { transfer = t; list = l })) ((λ i. moved_in t (a.slow i) (cells_are i)) ∙ sym own_new))
      (subst (IsIdle bus.id) (sym helper) a.helper) halves records live room (ap tag_of is)

  out_of_half : x'.seat ≡ with_prompt (with_tag x.seat t.tag (Some record { transfer = t; list = cells })) (moved_out t cells x.seat.prompt) → Tied bus shape x' (recorded t (copied_out t y))
  out_of_half e = begun bus shape x y a t can is_allocated idle home (moved_out t (y.halves t.fast t.half) y.state.slow) y.halves (length-first_out t y.state.slow (y.halves t.fast t.half) t.count)
      (λ m h ne. refl)
      (ap (λ l. length l) (sym cells_are) ∙ whole)
      x' (ap (λ (s : ComputeShape). s.id) e) (ap (λ (s : ComputeShape). s.prompt) e ∙ (λ i. moved_out t (cells_are i) (a.slow i)))
      (ap (λ (s : ComputeShape). s.tags) e ∙ ap (λ l. set x.seat.tags t.tag (Some record { transfer = t; list = l })) cells_are)
      (subst (IsIdle bus.id) (sym helper) a.helper) halves records live room (ap tag_of is)

  pub begun_as : Tied bus shape x' (started t y)
  unfolding started
  begun_as = by t.incoming seat
    where
      by : (i : Bool) → x'.seat ≡ (if i then with_tag x.seat t.tag (Some record { transfer = t; list = moved_in t x.seat.prompt cells }) else with_prompt (with_tag x.seat t.tag (Some record { transfer = t; list = cells })) (moved_out t cells x.seat.prompt)) → Tied bus shape x' (recorded t (if i then copied_in t y else copied_out t y))
      by true e = into_half e
      by false e = out_of_half e

-- a start that passes its tests
pub start_passes : (t : Transfer) (y : Device) → is_started y.outstanding t.tag ≡ false → is_away y.outstanding t.fast t.half ≡ false → start_races y.outstanding t ≡ false → prompt_start t y ≡ End (started t y)
start_passes t y idle home apart = goes_on (is_started y.outstanding t.tag) Tag y _ idle ∙ goes_on (is_away y.outstanding t.fast t.half) Touched y _ home ∙ goes_on (start_races y.outstanding t) Race y _ apart
