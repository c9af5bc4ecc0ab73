-- Boxes of any rank, row-major, as boxes whose cells' slow places are given by a function.
use Rattle.std.proofs.Common.{◌≡◌, ℕ, zero, suc, ◌+◌, ◌*◌, ◌/◌, ◌%◌, ◌<◌, ◌≤◌, ⊎_elim, List, [], ◌∷◌, ◌++◌, refl, sym, ap, ◌∙◌, subst, arith}
use Rattle.std.specs.Prelude.{nat_eq, flat_map, if◌then◌else◌}
use Rattle.std.specs.List.{range_with_len}
use Rattle.std.proofs.lemmas.List.{append_assoc, append-nil}
use Rattle.std.proofs.lemmas.Bool.{cases_lt}
use Rattle.std.proofs.lemmas.Nat.{div-mul-add, mod-mul-add}
use Rattle.std.proofs.Math.Nat.{div-eq_of_lt, mod-eq_of_lt}
use Rattle.bus_model.specs.Places.{slow_place}
use Rattle.direct_meaning.specs.Action.{Slow, Fast, Action}
use Rattle.direct_meaning.specs.Static.{product}
use Rattle.boxes.specs.Boxes as box
use Rattle.boxes.specs.Boxes.{Side, volume, count, place_at, number_at, InBox, cell, first, far, shape, shape_over, chunk_of, stride_of, slow_at}
use Rattle.boxes.proofs.Places.{count_pos, cell_is, cell_in, cell_rises, number_in, cell_of_number}
use Rattle.boxes.proofs.Transfers.{IsMixed, transfer_carries}
use Rattle.box_run_laws.specs.Layouts.{Numbering, moved_to, place_moved}
use Rattle.box_run_laws.specs.Boxes.{found, cell_at, Half, boxed}
use Rattle.box_run_laws.specs.Parts.{IsBox}
use Rattle.box_run_laws.specs.Templates.{pairs, Carrier, Carries}
use Rattle.box_run_laws.proofs.Boxes.{found_at}

-- the slow place of a cell, where the memref's first element has the slow place `base`
abbrev pub row_major : ℕ → List Side → ℕ → ℕ
row_major base ds k = base + cell ds k

cell_apart : (ds : List Side) → box.IsBox ds → (i j : ℕ) → i < count ds → j < count ds → cell ds i ≡ cell ds j → i ≡ j
cell_apart ds b i j h k e =
    ⊎_elim
    (λ (less : i < j). absurd (let r = cell_rises ds i j b less k in omega (arith, r, e)))
    (λ (at_most : j ≤ i). ⊎_elim
    (λ (less : j < i). absurd (let r = cell_rises ds j i b less h in omega (arith, r, e)))
    (λ (more : i ≤ j). omega (arith, at_most, more))
    (cases_lt j i))
    (cases_lt i j)

-- a box of subscripts within a memref that lies in the slow list
pub is_box : (b : Half) (total base : ℕ) (ds : List Side) → box.IsBox ds → b.count ≡ count ds → base + volume ds ≤ total → IsBox b.count total (row_major base ds)
is_box b total base ds i e fits = record {
  distinct = λ j k h l same. cell_apart ds i j k (subst (λ n. j < n) e h) (subst (λ n. k < n) e l) (omega (arith, same));
  inside = λ k h. let less = cell_in ds k i (subst (λ n. k < n) e h) in omega (arith, less, fits);
}

-- an access of an element in the box goes to the cell of its number
pub in_box_moves : (nu : Numbering) (b : Half) (base : ℕ) (ds : List Side) (xs : List ℕ) → box.IsBox ds → b.count ≡ count ds → InBox ds xs
    → place_moved nu (boxed b (row_major base ds)) (Slow (base + place_at ds xs)) ≡ Fast b.number b.half (number_at ds xs)
unfolding place_moved
in_box_moves nu b base ds xs i e h =
    let less : number_at ds xs < b.count = subst (λ n. number_at ds xs < n) (sym e) (number_in ds xs i h) in
    let at : row_major base ds (number_at ds xs) ≡ base + place_at ds xs = ap (λ n. base + n) (cell_of_number ds xs i h) in
    let d = λ (j k : ℕ) (l : j < b.count) (m : k < b.count) (same : row_major base ds j ≡ row_major base ds k). cell_apart ds i j k (subst (λ n. j < n) e l) (subst (λ n. k < n) e m) (omega (arith, same)) in
    ap (λ p. moved_to (base + place_at ds xs) (cell_at b.number b.half (found (row_major base ds) b.count p))) (sym at)
    ∙ ap (λ o. moved_to (base + place_at ds xs) (cell_at b.number b.half o)) (found_at (row_major base ds) b.count (number_at ds xs) d less)

-- the first cell
far_zero : (ds : List Side) → box.IsBox ds → far ds 0 ≡ 0
far_zero [] i = refl
far_zero (d ∷ ds) i =
    let c = count_pos ds i.2 in
    let z = far_zero ds i.2 in
    rw (div-eq_of_lt c, mod-eq_of_lt c) (omega (arith, z))

pub first_cell : (ds : List Side) → box.IsBox ds → cell ds 0 ≡ first ds
first_cell ds i = cell_is ds 0 ∙ (let z = far_zero ds i in omega (arith, z))

-- the box's transfer carries it, once the box has a shape that one transfer has
pub carries : (b : Half) (c : Carrier) (base : ℕ) (ds : List Side) → box.IsBox ds → ¬ IsMixed (shape ds) → b.count ≡ count ds
    → c.stride ≡ stride_of (shape ds) (count ds) → c.chunk ≡ chunk_of (shape ds) (count ds) → Carries b c (row_major base ds)
unfolding slow_place
carries b c base ds i even e s k t h =
    let same = transfer_carries ds i even t (subst (λ n. t < n) e h) in
    let one = first_cell ds i in
    (λ j. base + cell ds 0 + t / k j * s j + t % k j)
    ∙ regroup base (cell ds 0) (first ds) (t / chunk_of (shape ds) (count ds) * stride_of (shape ds) (count ds)) (t % chunk_of (shape ds) (count ds)) (cell ds t) one same
  where
    regroup : (a x f q r y : ℕ) → x ≡ f → f + q + r ≡ y → a + x + q + r ≡ a + y
    regroup a x f q r y e g = omega (arith, e, g)

-- boxes of one placement at different turns differ by their places alone
abbrev pub SameForm : List Side → List Side → Type 0
SameForm [] [] = Unit {0}
SameForm [] (e ∷ es) = ⊥
SameForm (d ∷ ds) [] = ⊥
SameForm (d ∷ ds) (e ∷ es) = (d.size ≡ e.size) × (d.extent ≡ e.extent) × SameForm ds es

pub same_count : (ds es : List Side) → SameForm ds es → count ds ≡ count es
same_count [] [] h = refl
same_count [] (e ∷ es) h = absurd h
same_count (d ∷ ds) [] h = absurd h
same_count (d ∷ ds) (e ∷ es) h = λ i. h.1 i * same_count ds es h.2 i

pub same_volume : (ds es : List Side) → SameForm ds es → volume ds ≡ volume es
same_volume [] [] h = refl
same_volume [] (e ∷ es) h = absurd h
same_volume (d ∷ ds) [] h = absurd h
same_volume (d ∷ ds) (e ∷ es) h = λ i. h.0 i * same_volume ds es h.2 i

pub same_shape : (ds es : List Side) → SameForm ds es → shape ds ≡ shape es
same_shape [] [] h = refl
same_shape [] (e ∷ es) h = absurd h
same_shape (d ∷ ds) [] h = absurd h
same_shape (d ∷ ds) (e ∷ es) h = ap (shape_over d ds) (same_shape ds es h.2) ∙ over (shape es)
  where
    over : (s : _) → shape_over d ds s ≡ shape_over e es s
    over box.Whole = λ i. if nat_eq (h.1 i) (h.0 i) then box.Whole else box.OneRun
    over box.OneRun = λ i. if nat_eq (h.1 i) 1 then box.OneRun else (if nat_eq (h.1 i) (h.0 i) then box.Even (same_count ds es h.2 i) (same_volume ds es h.2 i) else box.Runs (same_count ds es h.2 i) (same_volume ds es h.2 i))
    over (box.Even c s) = λ i. if nat_eq (h.1 i) (h.0 i) then box.Even c s else box.Runs c s
    over (box.Runs c s) = λ i. if nat_eq (h.1 i) 1 then box.Runs c s else box.Mixed
    over box.Mixed = refl

-- ---- loops inside one another
-- all numbers of a row of loops, the last fastest
abbrev pub nested : {A : Type 0} → List ℕ → (List ℕ → List A) → List A
nested [] B = B []
nested (e ∷ es) B = flat_map (λ x. nested es (λ xs. B (x ∷ xs))) (range_with_len 0 e)

-- the numbers of turn t, counted through all of them
abbrev pub digits : List ℕ → ℕ → List ℕ
digits [] t = []
digits (e ∷ es) t = (t / product es) ∷ digits es (t % product es)

pub flat_same : {A : Type 0} (f g : ℕ → List A) (n a : ℕ) → ((k : ℕ) → a ≤ k → k < a + n → f k ≡ g k) → flat_map f (range_with_len a n) ≡ flat_map g (range_with_len a n)
flat_same f g zero a h = refl
flat_same f g (suc n) a h = λ i. h a (omega arith) (omega arith) i ++ flat_same f g n (a + 1) (λ k l m. h k (omega (arith, l)) (omega (arith, m))) i

-- a range from a on, as one from 0 on
flat_from : {A : Type 0} (f : ℕ → List A) (n a c : ℕ) → flat_map f (range_with_len (a + c) n) ≡ flat_map (λ k. f (a + k)) (range_with_len c n)
flat_from f zero a c = refl
flat_from f (suc n) a c =
    let e : a + c + 1 ≡ a + (c + 1) = omega arith in
    ap (λ l. f (a + c) ++ l) (ap (λ j. flat_map f (range_with_len j n)) e ∙ flat_from f n a (c + 1))

flat_split : {A : Type 0} (f : ℕ → List A) (n m a : ℕ) → flat_map f (range_with_len a (n + m)) ≡ flat_map f (range_with_len a n) ++ flat_map f (range_with_len (a + n) m)
flat_split f zero m a =
    let e : 0 + m ≡ m = omega arith in
    let g : a ≡ a + 0 = omega arith in
    ap (λ j. flat_map f (range_with_len a j)) e ∙ ap (λ j. flat_map f (range_with_len j m)) g
flat_split f (suc n) m a =
    let e : suc n + m ≡ suc (n + m) = omega arith in
    let g : a + 1 + n ≡ a + suc n = omega arith in
    ap (λ j. flat_map f (range_with_len a j)) e
    ∙ ap (λ l. f a ++ l) (flat_split f n m (a + 1))
    ∙ sym (append_assoc (f a) (flat_map f (range_with_len (a + 1) n)) (flat_map f (range_with_len (a + 1 + n) m)))
    ∙ ap (λ j. (f a ++ flat_map f (range_with_len (a + 1) n)) ++ flat_map f (range_with_len j m)) g

-- blocks of m numbers
flat_blocks : {A : Type 0} (f : ℕ → List A) (m n a : ℕ) → flat_map f (range_with_len (a * m) (n * m)) ≡ flat_map (λ x. flat_map (λ r. f (x * m + r)) (range_with_len 0 m)) (range_with_len a n)
flat_blocks f m zero a = let e : 0 * m ≡ 0 = omega arith in ap (λ j. flat_map f (range_with_len (a * m) j)) e
flat_blocks f m (suc n) a =
    let e : suc n * m ≡ m + n * m = omega arith in
    let g : a * m + m ≡ (a + 1) * m = omega arith in
    let z : a * m ≡ a * m + 0 = omega arith in
    ap (λ j. flat_map f (range_with_len (a * m) j)) e
    ∙ flat_split f m (n * m) (a * m)
    ∙ (λ i. (ap (λ j. flat_map f (range_with_len j m)) z ∙ flat_from f m (a * m) 0) i ++ (ap (λ j. flat_map f (range_with_len j (n * m))) g ∙ flat_blocks f m n (a + 1)) i)

-- loops inside one another are one loop over the digits
pub nested_is : {A : Type 0} (es : List ℕ) (B : List ℕ → List A) → nested es B ≡ flat_map (λ t. B (digits es t)) (range_with_len 0 (product es))
nested_is [] B = sym (append-nil (B []))
nested_is (e ∷ es) B =
    let m = product es in
    flat_same (λ x. nested es (λ xs. B (x ∷ xs))) (λ x. flat_map (λ r. B (digits (e ∷ es) (x * m + r))) (range_with_len 0 m)) e 0
    (λ x l h. nested_is es (λ xs. B (x ∷ xs)) ∙ flat_same (λ r. B (x ∷ digits es r)) (λ r. B (digits (e ∷ es) (x * m + r))) m 0
    (λ r k j. let less : r < m = omega (arith, j) in λ i. B (sym (div-mul-add x m r less) i ∷ digits es (sym (mod-mul-add x m r less) i))))
    ∙ sym (flat_blocks (λ t. B (digits (e ∷ es) t)) m e 0)
    ∙ (let z : 0 * m ≡ 0 = omega arith in ap (λ j. flat_map (λ t. B (digits (e ∷ es) t)) (range_with_len j (e * m))) z)

-- two actions a turn
pub pairs_are : (a b : ℕ → Action) (n k : ℕ) → flat_map (λ t. a t ∷ b t ∷ []) (range_with_len k n) ≡ pairs a b n k
pairs_are a b zero k = refl
pairs_are a b (suc n) k =
    let e : k + 1 ≡ suc k = omega arith in
    ap (λ l. a k ∷ b k ∷ l) (ap (λ j. flat_map (λ t. a t ∷ b t ∷ []) (range_with_len j n)) e ∙ pairs_are a b n (suc k))

-- the places of a box and its extents
abbrev pub extents : List Side → List ℕ
extents [] = []
extents (d ∷ ds) = d.extent ∷ extents ds

abbrev pub added : List Side → List ℕ → List ℕ
added [] xs = []
added (d ∷ ds) [] = []
added (d ∷ ds) (x ∷ xs) = (d.place + x) ∷ added ds xs

pub extents_count : (ds : List Side) → product (extents ds) ≡ count ds
extents_count [] = refl
extents_count (d ∷ ds) = ap (λ n. d.extent * n) (extents_count ds)

-- the copy loops' subscripts of turn t are those of element t of the box
pub digits_are : (ds : List Side) (t : ℕ) → added ds (digits (extents ds) t) ≡ box.subscripts ds t
digits_are [] t = refl
digits_are (d ∷ ds) t =
    let e = extents_count ds in
    (λ i. (d.place + t / e i) ∷ added ds (digits (extents ds) (t % e i)))
    ∙ ap (λ l. (d.place + t / count ds) ∷ l) (digits_are ds (t % count ds))
