-- The halves of fast memrefs, each cell in the range of its width, and what transfers and stores leave of them.
use Rattle.std.proofs.Common.{◌≡◌, ℕ, zero, suc, ◌+◌, ◌≤◌, ◌<◌, ℤ, pos, Bool, true, false, List, [], ◌∷◌, ◌++◌, length, refl, sym, ap, ◌∙◌, subst, arith, length-set}
use Rattle.std.specs.Prelude.{◌&&◌, ◌||◌, nat_eq, nat_lt, replicate, fold, Option, Some, None, slice_index_or, slice_set, if◌then◌else◌}
use Rattle.std.specs.List.{list_any, range_with_len}
use Rattle.std.proofs.lemmas.Bool.{and_parts}
use Rattle.std.proofs.lemmas.Grind.{get_or-set_at}
use Rattle.std.proofs.lemmas.List.{get_or-set_other, get_or-replicate, length-replicate}
use Rattle.std.proofs.lemmas.List.Folds.{list_any-append}
use Rattle.int_ops.specs.Wrapped.{InRange, wrapped}
use Rattle.int_ops.proofs.Wraps.{wrapped_range}
use Rattle.bus_model.specs.declared.transfer.Transfer.{Transfer}
use Rattle.bus_model.specs.Copies.{number_at, moved_in, moved_out}
use Rattle.bus_model.specs.Places.{slow_place}
use Rattle.prompt_semantics.specs.Device.{put_half, put_halves, is_started, without, record_of}
use Rattle.prompt_semantics.proofs.Laws.{half_same, half_other, halves_same, halves_other}
use Rattle.run_laws.proofs.Cells.{CellsFit, by_places, cells_set}
use Rattle.prompt_laws.specs.Rooms.{Room}
use Rattle.prompt_laws.specs.Reaches.{FlightFits, FlightsFit}

-- as many cells as the room has, each in the range of its width
pub record HalfFits (room : Room) (cells : List ℤ) : Type 0 where
  pub long : length cells ≡ room.cells
  pub fit : (c : ℕ) → c < room.cells → InRange room.bits (slice_index_or cells c (pos 0))

pub set_fits : (room : Room) (cells : List ℤ) (i : ℕ) (z : ℤ) → HalfFits room cells → InRange room.bits z → HalfFits room (slice_set cells i z)
set_fits room cells i z h r = record {
  long = length-set cells i z ∙ h.long;
  fit = λ c below. by_places i c
      (λ same. subst (InRange room.bits) (sym (get_or-set_at cells i c z (pos 0) (sym same) (omega (arith, h.long, below, same)))) r)
      (λ other. subst (InRange room.bits) (sym (get_or-set_other cells i c z (pos 0) (λ q. other (sym q)))) (h.fit c below));
}

pub fresh_fits : (room : Room) (filler : ℤ) → 1 ≤ room.bits → HalfFits room (replicate room.cells (wrapped room.bits filler))
fresh_fits room filler wide = record {
  long = length-replicate room.cells (wrapped room.bits filler);
  fit = λ c below. subst (InRange room.bits) (sym (get_or-replicate room.cells c (wrapped room.bits filler) (pos 0) below)) (wrapped_range room.bits filler wide);
}

-- elements that go in
all_in : (room : Room) (f : ℕ → ℤ) (g : ℕ → ℕ) (a n : ℕ) (cells : List ℤ) → ((e : ℕ) → e < a + n → InRange room.bits (f e)) → HalfFits room cells → HalfFits room (fold (λ cells e. slice_set cells (g e) (f e)) cells (range_with_len a n))
all_in room f g a zero cells r h = h
all_in room f g a (suc n) cells r h = all_in room f g (a + 1) n (slice_set cells (g a) (f a)) (λ e below. r e (omega (arith, below))) (set_fits room cells (g a) (f a) h (r a (omega arith)))

pub moved_in_fits : (widths : List ℕ) (slow : List ℤ) (room : Room) (cells : List ℤ) (t : Transfer) → CellsFit widths slow → ((e : ℕ) → e < t.count → (slow_place t e < length widths) × (slice_index_or widths (slow_place t e) 0 ≡ room.bits)) → HalfFits room cells → HalfFits room (moved_in t slow cells)
moved_in_fits widths slow room cells t fit places h =
    all_in room (λ e. number_at slow (slow_place t e)) (λ e. t.offset + e) 0 t.count cells
    (λ e below. let there = places e (omega (arith, below)) in subst (λ n. InRange n (number_at slow (slow_place t e))) there.1 (fit.fit (slow_place t e) there.0)) h

-- elements that go out
all_out : (widths : List ℕ) (bits : ℕ) (f : ℕ → ℤ) (g : ℕ → ℕ) (a n : ℕ) (slow : List ℤ) → ((e : ℕ) → e < a + n → (InRange bits (f e)) × (g e < length widths) × (slice_index_or widths (g e) 0 ≡ bits)) → CellsFit widths slow → CellsFit widths (fold (λ slow e. slice_set slow (g e) (f e)) slow (range_with_len a n))
all_out widths bits f g a zero slow r h = h
all_out widths bits f g a (suc n) slow r h =
    let one = r a (omega arith) in
    all_out widths bits f g (a + 1) n (slice_set slow (g a) (f a)) (λ e below. r e (omega (arith, below))) (cells_set widths slow (g a) bits (f a) h one.1 one.2 one.0)

pub moved_out_fits : (widths : List ℕ) (slow : List ℤ) (room : Room) (cells : List ℤ) (t : Transfer) → HalfFits room cells → t.offset + t.count ≤ room.cells → ((e : ℕ) → e < t.count → (slow_place t e < length widths) × (slice_index_or widths (slow_place t e) 0 ≡ room.bits)) → CellsFit widths slow → CellsFit widths (moved_out t cells slow)
moved_out_fits widths slow room cells t h inside places fit =
    all_out widths room.bits (λ e. number_at cells (t.offset + e)) (λ e. slow_place t e) 0 t.count slow
    (λ e below. let there = places e (omega (arith, below)) in (h.fit (t.offset + e) (omega (arith, below, inside)), there.0, there.1)) fit

-- ---- tables of halves

-- one half is changed
pub half_put : (room : Room) (halves : ℕ → ℕ → List ℤ) (number half k h : ℕ) (cells : List ℤ) → (number ≡ k → HalfFits room cells) → HalfFits room (halves k h) → HalfFits room (put_half halves number half cells k h)
half_put room halves number half k h cells new old = by (nat_eq number k && nat_eq half h) refl
  where
    by : (t : Bool) → (nat_eq number k && nat_eq half h) ≡ t → HalfFits room (put_half halves number half cells k h)
    by true t = let two = and_parts (nat_eq number k) (nat_eq half h) t in let e = two.0 in let same : number ≡ k = grind (arith, e) in
        subst (HalfFits room) (sym (half_same halves number half k h cells t)) (new same)
    by false t = subst (HalfFits room) (sym (half_other halves number half k h cells t)) old

-- all halves of one memref are
pub halves_put : (room : Room) (halves : ℕ → ℕ → List ℤ) (number k h : ℕ) (cells : List ℤ) → (number ≡ k → HalfFits room cells) → ((number ≡ k → ⊥) → HalfFits room (halves k h)) → HalfFits room (put_halves halves number cells k h)
halves_put room halves number k h cells new old = by (nat_eq number k) refl
  where
    by : (t : Bool) → nat_eq number k ≡ t → HalfFits room (put_halves halves number cells k h)
    by true t = let same : number ≡ k = grind (arith, t) in
        subst (λ n. HalfFits room (put_halves halves number cells n h)) same (subst (HalfFits room) (sym (halves_same halves number h cells)) (new same))
    by false t = subst (HalfFits room) (sym (halves_other halves number k h cells t)) (old (λ e. grind (arith, t, e)))

-- ---- outstanding transfers

or_false : (a b : Bool) → (a || b) ≡ false → (a ≡ false) × (b ≡ false)
or_false true b h = absurd (let z : ⊥ = cc in z)
or_false false b h = (refl, h)

both_false : (a b : Bool) → a ≡ false → b ≡ false → (a || b) ≡ false
both_false a b p q = ap (λ x. x || b) p ∙ q

turned : (a b : ℕ) → nat_eq a b ≡ false → (nat_eq b a || false) ≡ false
turned a b h = both_false (nat_eq b a) false (by (nat_eq b a) refl) refl
  where
    by : (t : Bool) → nat_eq b a ≡ t → t ≡ false
    by true t = grind (arith, t, h)
    by false t = refl

-- one more, with a tag that isn't started
pub flights_more : (size : ℕ) (ts : List Transfer) (t : Transfer) → FlightsFit size ts → is_started ts t.tag ≡ false → FlightFits size t → FlightsFit size (ts ++ t ∷ [])
flights_more size [] t h idle new = (new, refl, tt)
flights_more size (o ∷ ts) t h idle new =
    let two = or_false (nat_eq o.tag t.tag) (is_started ts t.tag) idle in
    (h.0, list_any-append (λ x. nat_eq x.tag o.tag) ts (t ∷ []) ∙ both_false (is_started ts o.tag) (nat_eq t.tag o.tag || false) h.1 (turned o.tag t.tag two.0), flights_more size ts t h.2 two.1 new)

-- without one, no tag is started that wasn't
still_idle : (ts : List Transfer) (tag other : ℕ) → is_started ts other ≡ false → is_started (without tag ts) other ≡ false
still_idle [] tag other h = refl
still_idle (t ∷ ts) tag other h = let two = or_false (nat_eq t.tag other) (is_started ts other) h in by (nat_eq t.tag tag) two.0 two.1 (still_idle ts tag other two.1)
  where
    by : (b : Bool) → nat_eq t.tag other ≡ false → is_started ts other ≡ false → is_started (without tag ts) other ≡ false → is_started (if b then ts else t ∷ without tag ts) other ≡ false
    by true p q r = q
    by false p q r = both_false (nat_eq t.tag other) (is_started (without tag ts) other) p r

pub flights_less : (size : ℕ) (ts : List Transfer) (tag : ℕ) → FlightsFit size ts → FlightsFit size (without tag ts)
flights_less size [] tag h = tt
flights_less size (t ∷ ts) tag h = by (nat_eq t.tag tag) (flights_less size ts tag h.2)
  where
    by : (b : Bool) → FlightsFit size (without tag ts) → FlightsFit size (if b then ts else t ∷ without tag ts)
    by true more = h.2
    by false more = (h.0, still_idle ts tag t.tag h.1, more)
