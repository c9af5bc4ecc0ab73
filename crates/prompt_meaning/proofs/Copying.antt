-- Halves of fast memrefs, as parts of the memrefs' cells.
use Rattle.std.proofs.Common.{◌≡◌, ◌⊎◌, inl, inr, ⊎_elim, ℕ, zero, suc, ◌+◌, ◌*◌, ◌<◌, ◌≤◌, ℤ, pos, Bool, true, false, List, [], ◌∷◌, ◌++◌, length, take, drop, get_or, set, refl, sym, ap, ◌∙◌, subst, arith, length-set}
use mathlib.Core.Path.{fun_ext}
use Rattle.std.specs.Prelude.{◌&&◌, fold, nat_eq, replicate, Some}
use Rattle.std.specs.List.{range_with_len}
use Rattle.std.proofs.lemmas.Bool.{and_parts, eq-eqb}
use Rattle.std.proofs.lemmas.List.{get_or-take, get_or-drop}
use Rattle.std.proofs.lemmas.List.Sums.{fold-append}
use Rattle.bus_model.specs.declared.transfer.Transfer.{Transfer}
use Rattle.bus_model.specs.Copies.{number_at, first_in, first_out}
use Rattle.bus_model.specs.Places.{slow_place}
use Rattle.prompt_semantics.specs.Device.{put_half}
use Rattle.prompt_semantics.proofs.Laws.{half_same, half_other}
use Rattle.prompt_laws.specs.Rooms.{Room}
use Rattle.prompt_meaning.specs.declared.fast.FastMemref.{FastMemref}
use Rattle.prompt_meaning.specs.Memrefs.{half_in, memref_at, halves_at, CellIn, FillsHalves, AreRooms}

-- ---- parts of a list

set_front : (xs : List ℤ) (m c : ℕ) (z : ℤ) → c < m → take m (set xs c z) ≡ set (take m xs) c z
set_front xs zero c z h = absurd (omega (arith, h))
set_front [] (suc m) c z h = refl
set_front (x ∷ xs) (suc m) zero z h = refl
set_front (x ∷ xs) (suc m) (suc c) z h = ap (λ l. x ∷ l) (set_front xs m c z (omega (arith, h)))

nothing : (m c : ℕ) (z : ℤ) → take m [] ≡ set (take m []) c z
nothing zero c z = refl
nothing (suc m) c z = refl

part_set : (xs : List ℤ) (a m c : ℕ) (z : ℤ) → c < m → take m (drop a (set xs (a + c) z)) ≡ set (take m (drop a xs)) c z
part_set xs zero m c z h = let e : 0 + c ≡ c = omega arith in ap (λ j. take m (set xs j z)) e ∙ set_front xs m c z h
part_set [] (suc a) m c z h = nothing m c z
part_set (x ∷ xs) (suc a) m c z h = let e : suc a + c ≡ suc (a + c) = omega arith in ap (λ j. take m (drop (suc a) (set (x ∷ xs) j z))) e ∙ part_set xs a m c z h

set_behind : (xs : List ℤ) (m j : ℕ) (z : ℤ) → m ≤ j → take m (set xs j z) ≡ take m xs
set_behind xs zero j z h = refl
set_behind [] (suc m) j z h = refl
set_behind (x ∷ xs) (suc m) zero z h = absurd (omega (arith, h))
set_behind (x ∷ xs) (suc m) (suc j) z h = ap (λ l. x ∷ l) (set_behind xs m j z (omega (arith, h)))

part_else : (xs : List ℤ) (a m j : ℕ) (z : ℤ) → (j < a) ⊎ (a + m ≤ j) → take m (drop a (set xs j z)) ≡ take m (drop a xs)
part_else xs zero m j z h = set_behind xs m j z (⊎_elim (λ (l : j < 0). absurd (omega (arith, l))) (λ (l : 0 + m ≤ j). omega (arith, l)) h)
part_else [] (suc a) m j z h = refl
part_else (x ∷ xs) (suc a) m zero z h = refl
part_else (x ∷ xs) (suc a) m (suc j) z h = part_else xs a m j z (⊎_elim (λ (l : suc j < suc a). inl (omega (arith, l))) (λ (l : suc a + m ≤ suc j). inr (omega (arith, l))) h)

-- two halves don't share a cell
which : (h i : ℕ) → (suc h ≤ i) ⊎ (i ≤ h)
which zero zero = inr (omega arith)
which zero (suc i) = inl (omega arith)
which (suc h) zero = inr (omega arith)
which (suc h) (suc i) = ⊎_elim (λ (l : suc h ≤ i). inl (omega (arith, l))) (λ (l : i ≤ h). inr (omega (arith, l))) (which h i)

before : (m h i c : ℕ) → c < m → suc h ≤ i → h * m + c < i * m
before m h i c below l = grind (arith, below, l)

behind : (m h i c : ℕ) → suc i ≤ h → i * m + m ≤ h * m + c
behind m h i c l = grind (arith, l)

other_half : (m h i c : ℕ) → c < m → (h ≡ i → ⊥) → (h * m + c < i * m) ⊎ (i * m + m ≤ h * m + c)
other_half m h i c below ne = ⊎_elim (λ (l : suc h ≤ i). inl (before m h i c below l)) (λ (l : i ≤ h). inr (behind m h i c (not_same l))) (which h i)
  where
    not_same : i ≤ h → suc i ≤ h
    not_same l = ⊎_elim (λ (k : suc i ≤ h). k) (λ (k : h ≤ i). absurd (ne (omega (arith, k, l)))) (which i h)

-- ---- memrefs

pub at_index : (fs : List FastMemref) (n : ℕ) (m x : FastMemref) → memref_at fs n ≡ Some m → n < length fs → x ≡ get_or fs n x → x ≡ m
at_index [] n m x e h is = absurd (omega (arith, h))
at_index (f ∷ fs) zero m x e h is = is ∙ (let q : f ≡ m = cc in q)
at_index (f ∷ fs) (suc n) m x e h is = at_index fs n m x e (omega (arith, h)) is

set_here : (fs : List FastMemref) (n : ℕ) (m x : FastMemref) → memref_at fs n ≡ Some m → memref_at (set fs n x) n ≡ Some x
set_here [] n m x e = absurd (let z : ⊥ = cc in z)
set_here (f ∷ fs) zero m x e = refl
set_here (f ∷ fs) (suc n) m x e = set_here fs n m x e

set_else : (fs : List FastMemref) (n k : ℕ) (x : FastMemref) → nat_eq n k ≡ false → memref_at (set fs n x) k ≡ memref_at fs k
set_else [] n k x e = refl
set_else (f ∷ fs) zero zero x e = absurd (let z : ⊥ = cc in z)
set_else (f ∷ fs) zero (suc k) x e = refl
set_else (f ∷ fs) (suc n) zero x e = refl
set_else (f ∷ fs) (suc n) (suc k) x e = set_else fs n k x (differ n k e)
  where
    differ : (n k : ℕ) → nat_eq (suc n) (suc k) ≡ false → nat_eq n k ≡ false
    differ n k e = by (nat_eq n k) refl
      where
        by : (t : Bool) → nat_eq n k ≡ t → t ≡ false
        by true t = grind (arith, t, e)
        by false t = refl

rooms_kept : (rooms : List Room) (fs : List FastMemref) (n : ℕ) (m x : FastMemref) → memref_at fs n ≡ Some m → x.half ≡ m.half → length x.cells.items ≡ length m.cells.items → AreRooms rooms fs → AreRooms rooms (set fs n x)
rooms_kept [] [] n m x e a b h = h
rooms_kept [] (f ∷ fs) n m x e a b h = absurd h
rooms_kept (r ∷ rooms) [] n m x e a b h = absurd h
rooms_kept (r ∷ rooms) (f ∷ fs) zero m x e a b h =
    let q : f ≡ m = cc in
    (record { half_is = a ∙ ap (λ (f : FastMemref). f.half) (sym q) ∙ h.0.half_is; cells_are = b ∙ ap (λ (f : FastMemref). length f.cells.items) (sym q) ∙ h.0.cells_are }, h.1)
rooms_kept (r ∷ rooms) (f ∷ fs) (suc n) m x e a b h = (h.0, rooms_kept rooms fs n m x e a b h.1)

-- a memref is replaced by one of its size
module _ (fs after : List FastMemref) (n : ℕ) (m x : FastMemref) (e : memref_at fs n ≡ Some m) (half : x.half ≡ m.half) (long : length x.cells.items ≡ length m.cells.items) (is : after ≡ set fs n x) where
  pub replaced_rooms : (rooms : List Room) → AreRooms rooms fs → AreRooms rooms after
  replaced_rooms rooms h = subst (AreRooms rooms) (sym is) (rooms_kept rooms fs n m x e half long h)

  pub replaced_cells : (k h c : ℕ) → CellIn fs k h c → CellIn after k h c
  replaced_cells k h c i = by (nat_eq n k) refl
    where
      there : k < length after
      there = let l = ap length is ∙ length-set fs n x in let t = i.there in omega (arith, l, t)

      by : (t : Bool) → nat_eq n k ≡ t → CellIn after k h c
      by true t =
          let same : n ≡ k = grind (arith, t) in
          let at : memref_at after k ≡ Some x = ap (λ fs. memref_at fs k) is ∙ subst (λ k. memref_at (set fs n x) k ≡ Some x) same (set_here fs n m x e) in
          let old : Some i.memref ≡ Some m = sym i.is ∙ ap (memref_at fs) (sym same) ∙ e in
          let q : i.memref ≡ m = cc in
          record {
            memref = x;
            is = at;
            there = there;
            in_half = subst (λ j. c < j) (ap (λ (f : FastMemref). f.half) q ∙ sym half) i.in_half;
            inside = subst (λ z. z) (λ j. h * (ap (λ (f : FastMemref). f.half) q ∙ sym half) j + c < (ap (λ (f : FastMemref). length f.cells.items) q ∙ sym long) j) i.inside;
          }
      by false t = record { memref = i.memref; is = ap (λ fs. memref_at fs k) is ∙ set_else fs n k x t ∙ i.is; there = there; in_half = i.in_half; inside = i.inside }

  -- one cell of a half of it has a new number
  pub cell_put : (h c : ℕ) (z : ℤ) → c < m.half → x.cells.items ≡ set m.cells.items (h * m.half + c) z → halves_at after ≡ put_half (halves_at fs) n h (set (halves_at fs n h) c z)
  cell_put h c z below cells = fun_ext (λ k. fun_ext (λ i. by k i (nat_eq n k) refl (nat_eq h i) refl))
    where
      here : (i : ℕ) → halves_at after n i ≡ take m.half (drop (i * m.half) (set m.cells.items (h * m.half + c) z))
      here i = ap (λ o. half_in o i) (ap (λ fs. memref_at fs n) is ∙ set_here fs n m x e) ∙ (λ j. take (half j) (drop (i * half j) (cells j)))

      was : (i : ℕ) → halves_at fs n i ≡ take m.half (drop (i * m.half) m.cells.items)
      was i = ap (λ o. half_in o i) e

      by : (k i : ℕ) (s : Bool) → nat_eq n k ≡ s → (t : Bool) → nat_eq h i ≡ t → halves_at after k i ≡ put_half (halves_at fs) n h (set (halves_at fs n h) c z) k i
      by k i true p true q =
          let a : n ≡ k = grind (arith, p) in
          let b : h ≡ i = grind (arith, q) in
          (λ j. halves_at after (sym a j) (sym b j)) ∙ here h ∙ part_set m.cells.items (h * m.half) m.half c z below ∙ ap (λ l. set l c z) (sym (was h))
          ∙ sym (half_same (halves_at fs) n h k i (set (halves_at fs n h) c z) (λ j. p j && q j))
      by k i true p false q =
          let a : n ≡ k = grind (arith, p) in
          (λ j. halves_at after (sym a j) i) ∙ here i ∙ part_else m.cells.items (i * m.half) m.half (h * m.half + c) z (other_half m.half h i c below (λ r. grind (arith, q, r))) ∙ sym (was i) ∙ (λ j. halves_at fs (a j) i)
          ∙ sym (half_other (halves_at fs) n h k i (set (halves_at fs n h) c z) (λ j. p j && q j))
      by k i false p t q =
          ap (λ o. half_in o i) (ap (λ fs. memref_at fs k) is ∙ set_else fs n k x p)
          ∙ sym (half_other (halves_at fs) n h k i (set (halves_at fs n h) c z) (λ j. p j && q j))

-- the number in a cell
pub cell_got : (fs : List FastMemref) (n h c : ℕ) (m : FastMemref) → memref_at fs n ≡ Some m → c < m.half → get_or m.cells.items (h * m.half + c) (pos 0) ≡ get_or (halves_at fs n h) c (pos 0)
cell_got fs n h c m e below = sym (ap (λ o. get_or (half_in o h) c (pos 0)) e ∙ get_or-take m.half (drop (h * m.half) m.cells.items) c (pos 0) below ∙ get_or-drop (h * m.half) m.cells.items c (pos 0))

-- ---- elements one by one

pub put_none : (f : ℕ → ℕ → List ℤ) (n h : ℕ) → f ≡ put_half f n h (f n h)
put_none f n h = fun_ext (λ k. fun_ext (λ i. by k i (nat_eq n k && nat_eq h i) refl))
  where
    by : (k i : ℕ) (t : Bool) → (nat_eq n k && nat_eq h i) ≡ t → f k i ≡ put_half f n h (f n h) k i
    by k i true t =
        let two = and_parts (nat_eq n k) (nat_eq h i) t in
        let p = two.0 in
        let q = two.1 in
        let a : n ≡ k = grind (arith, p) in
        let b : h ≡ i = grind (arith, q) in
        (λ j. f (sym a j) (sym b j)) ∙ sym (half_same f n h k i (f n h) t)
    by k i false t = sym (half_other f n h k i (f n h) t)

pub put_here : (f : ℕ → ℕ → List ℤ) (n h : ℕ) (a : List ℤ) → put_half f n h a n h ≡ a
put_here f n h a = half_same f n h n h a (λ i. eq-eqb n n refl i && eq-eqb h h refl i)

pub put_twice : (f : ℕ → ℕ → List ℤ) (n h : ℕ) (a b : List ℤ) → put_half (put_half f n h a) n h b ≡ put_half f n h b
put_twice f n h a b = fun_ext (λ k. fun_ext (λ i. by k i (nat_eq n k && nat_eq h i) refl))
  where
    by : (k i : ℕ) (t : Bool) → (nat_eq n k && nat_eq h i) ≡ t → put_half (put_half f n h a) n h b k i ≡ put_half f n h b k i
    by k i true t = half_same (put_half f n h a) n h k i b t ∙ sym (half_same f n h k i b t)
    by k i false t = half_other (put_half f n h a) n h k i b t ∙ half_other f n h k i a t ∙ sym (half_other f n h k i b t)

range_more : (a n : ℕ) → range_with_len a (suc n) ≡ range_with_len a n ++ (a + n) ∷ []
range_more a zero = ap (λ k. k ∷ []) (omega arith)
range_more a (suc n) = ap (λ l. a ∷ l) (range_more (a + 1) n ∙ ap (λ k. range_with_len (a + 1) n ++ k ∷ []) (omega arith))

fold_more : (f : List ℤ → ℕ → List ℤ) (b : List ℤ) (n : ℕ) → fold f b (range_with_len 0 (n + 1)) ≡ f (fold f b (range_with_len 0 n)) n
fold_more f b n =
    let e : n + 1 ≡ suc n = omega arith in
    ap (λ j. fold f b (range_with_len 0 j)) e ∙ ap (fold f b) (range_more 0 n) ∙ fold-append f b (range_with_len 0 n) ((0 + n) ∷ []) ∙ ap (f (fold f b (range_with_len 0 n))) (omega arith)

pub in_more : (t : Transfer) (slow cells : List ℤ) (k : ℕ) → first_in t slow (k + 1) cells ≡ set (first_in t slow k cells) (t.offset + k) (number_at slow (slow_place t k))
in_more t slow cells k = fold_more (λ cells e. set cells (t.offset + e) (number_at slow (slow_place t e))) cells k

pub out_more : (t : Transfer) (cells slow : List ℤ) (k : ℕ) → first_out t cells (k + 1) slow ≡ set (first_out t cells k slow) (slow_place t k) (number_at cells (t.offset + k))
out_more t cells slow k = fold_more (λ slow e. set slow (slow_place t e) (number_at cells (t.offset + e))) slow k

-- ---- all cells of one memref

take_replicate : (n m : ℕ) (z : ℤ) → m ≤ n → take m (replicate n z) ≡ replicate m z
take_replicate n zero z h = refl
take_replicate zero (suc m) z h = absurd (omega (arith, h))
take_replicate (suc n) (suc m) z h = ap (λ l. z ∷ l) (take_replicate n m z (omega (arith, h)))

part_replicate : (n a m : ℕ) (z : ℤ) → a + m ≤ n → take m (drop a (replicate n z)) ≡ replicate m z
part_replicate n zero m z h = take_replicate n m z (omega (arith, h))
part_replicate zero (suc a) m z h = absurd (omega (arith, h))
part_replicate (suc n) (suc a) m z h = part_replicate n a m z (omega (arith, h))

module _ (fs after : List FastMemref) (n : ℕ) (m x : FastMemref) (e : memref_at fs n ≡ Some m) (half : x.half ≡ m.half) (z : ℤ) (cells : x.cells.items ≡ replicate (length m.cells.items) z) (is : after ≡ set fs n x) where
  pub fills : FillsHalves n z fs after
  fills = record {
    filled = λ f h g room.
        (let q : f ≡ m = (let k : Some f ≡ Some m = sym g ∙ e in cc) in
        ap (λ o. half_in o h) (ap (λ fs. memref_at fs n) is ∙ set_here fs n m x e) ∙ (λ j. take (half j) (drop (h * half j) (cells j)))
        ∙ part_replicate (length m.cells.items) (h * m.half) m.half z (subst (λ (f : FastMemref). h * f.half + f.half ≤ length f.cells.items) q room)
        ∙ ap (λ (f : FastMemref). replicate f.half z) (sym q));
    others = λ k h differ. ap (λ o. half_in o h) (ap (λ fs. memref_at fs k) is ∙ set_else fs n k x differ);
  }

-- a number within the list is that of a memref
pub memref_there : (fs : List FastMemref) (n : ℕ) (d : FastMemref) → n < length fs → memref_at fs n ≡ Some (get_or fs n d)
memref_there [] n d h = absurd (omega (arith, h))
memref_there (f ∷ fs) zero d h = refl
memref_there (f ∷ fs) (suc n) d h = memref_there fs n d (omega (arith, h))

-- ---- a cell of a memref in a list

module _ (fs : List FastMemref) (n h c : ℕ) (d : FastMemref) (i : CellIn fs n h c) where
  here : get_or fs n d ≡ i.memref
  here = let k : Some (get_or fs n d) ≡ Some i.memref = sym (memref_there fs n d i.there) ∙ i.is in cc

  pub cell_inside : h * (get_or fs n d).half + c < length (get_or fs n d).cells.items
  cell_inside = subst (λ (m : FastMemref). h * m.half + c < length m.cells.items) (sym here) i.inside

  pub cell_loaded : (z : ℤ) → z ≡ get_or (get_or fs n d).cells.items (h * (get_or fs n d).half + c) (pos 0) → z ≡ get_or (halves_at fs n h) c (pos 0)
  cell_loaded z e = e ∙ ap (λ (m : FastMemref). get_or m.cells.items (h * m.half + c) (pos 0)) here ∙ cell_got fs n h c i.memref i.is i.in_half

  pub record Stored (after : List FastMemref) (z : ℤ) : Type 0 where
    pub halves : halves_at after ≡ put_half (halves_at fs) n h (set (halves_at fs n h) c z)
    pub rooms : (rooms : List Room) → AreRooms rooms fs → AreRooms rooms after
    pub cells : (k j e : ℕ) → CellIn fs k j e → CellIn after k j e

  pub stored : (after : List FastMemref) (x : FastMemref) (z : ℤ) → x.half ≡ (get_or fs n d).half → x.cells.items ≡ set (get_or fs n d).cells.items (h * (get_or fs n d).half + c) z → after ≡ set fs n x → Stored after z
  stored after x z half cells is =
      let same : x.half ≡ i.memref.half = half ∙ ap (λ (m : FastMemref). m.half) here in
      let new : x.cells.items ≡ set i.memref.cells.items (h * i.memref.half + c) z = cells ∙ ap (λ (m : FastMemref). set m.cells.items (h * m.half + c) z) here in
      let long : length x.cells.items ≡ length i.memref.cells.items = ap length new ∙ length-set i.memref.cells.items (h * i.memref.half + c) z in
      record {
        halves = cell_put fs after n i.memref x i.is same long is h c z i.in_half new;
        rooms = replaced_rooms fs after n i.memref x i.is same long is;
        cells = replaced_cells fs after n i.memref x i.is same long is;
      }
