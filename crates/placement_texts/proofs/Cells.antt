-- Subscripts counted from the box's first element give the cell to which the memref's element goes, at any rank.
use Rattle.std.proofs.Common.{◌≡◌, ℕ, ◌+◌, ◌-◌, ◌*◌, ◌/◌, ◌%◌, ◌<◌, ◌≤◌, ℤ, pos, negsuc, ◌-ℤ◌, ◌≤ℤ◌, ◌<ℤ◌, List, [], ◌∷◌, refl, sym, ap, ◌∙◌, subst, arith, Bool, true, false}
use Rattle.std.specs.Prelude.{◌&&◌, Option, Some, None, nat_lt, nat_le, if◌then◌else◌}
use Rattle.std.proofs.lemmas.Int.{ints}
use Rattle.std.proofs.lemmas.Nat.{div-mul-add, mod-mul-add}
use Rattle.std.proofs.lemmas.Bool.{ltb-true, lt-ltb, le-leb}
use Rattle.affine_ast.specs.Sizes.{product}
use Rattle.direct_meaning.specs.Action.{Place, Slow, Outside}
use Rattle.direct_meaning.specs.Static.{within, row_major, cell_in, slow_at, fast_at, half_place}
use Rattle.boxes.specs.Boxes.{Side}
use Rattle.placement_texts.specs.Boxes.{sizes_of, extents_of, LiesIn, InBox, from_place, box_cell, moved_to, is_of, box_place}

-- a subscript that is inside its size is a number below it
pub record IsWithin (z : ℤ) (n k : ℕ) : Type 0 where
  pub is : z ≡ pos k
  pub less : k < n

at_test : (a n : ℕ) (t : Bool) (k : ℕ) → nat_lt a n ≡ t → (if t then Some a else None) ≡ Some k → IsWithin (pos a) n k
at_test a n true k e h =
    let same : a ≡ k = cc in
    record { is = ap pos same; less = subst (λ x. x < n) same (ltb-true a n e) }
at_test a n false k e h = cc

pub within_is : (z : ℤ) (n k : ℕ) → within z n ≡ Some k → IsWithin z n k
within_is (pos a) n k h = at_test a n (nat_lt a n) k refl h
within_is (negsuc a) n k h = cc

pub within_at : (k n : ℕ) → k < n → within (pos k) n ≡ Some k
within_at k n h = let t : nat_lt k n ≡ true = lt-ltb k n h in ap (λ t. if t then Some k else None) t

-- an element's number, row-major, from the number of its row and its number there
pub record IsRow (a b : Option ℕ) (p k : ℕ) : Type 0 where
  pub row : ℕ
  pub rest : ℕ
  pub row_is : a ≡ Some row
  pub rest_is : b ≡ Some rest
  pub is : row * p + rest ≡ k

pub row_parts : (a b : Option ℕ) (p k : ℕ) → row_major a p b ≡ Some k → IsRow a b p k
row_parts (Some a) (Some b) p k h = record { row = a; rest = b; row_is = refl; rest_is = refl; is = cc }
row_parts (Some a) None p k h = cc
row_parts None b p k h = cc

-- a cell's number is less than how many there are
row_less : (a n p r : ℕ) → a < n → r < p → a * p + r < n * p
row_less a n p r h k = grind (arith, h, k)

pub cell_less : (ns : List ℕ) (zs : List ℤ) (k : ℕ) → cell_in ns zs ≡ Some k → k < product ns
cell_less [] [] k h = let e : 0 ≡ k = cc in omega (arith, e)
cell_less (n ∷ ns) (z ∷ zs) k h =
    let r = row_parts (within z n) (cell_in ns zs) (product ns) k h in
    let w = within_is z n r.row r.row_is in
    subst (λ x. x < n * product ns) r.is (row_less r.row n (product ns) r.rest w.less (cell_less ns zs r.rest r.rest_is))
cell_less [] (z ∷ zs) k h = cc
cell_less (n ∷ ns) [] k h = cc

-- the memref's element goes to the cell of its subscripts, counted from the box's first element, or to none if they are none
pub cell_moved : (ss : List Side) (zs : List ℤ) (k : ℕ) → cell_in (sizes_of ss) zs ≡ Some k → box_cell ss k ≡ cell_in (extents_of ss) (from_place ss zs)
cell_moved [] [] k h = refl
cell_moved (s ∷ ss) (z ∷ zs) k h =
    let p = product (sizes_of ss) in
    let r = row_parts (within z s.size) (cell_in (sizes_of ss) zs) p k h in
    let w = within_is z s.size r.row r.row_is in
    let less = cell_less (sizes_of ss) zs r.rest r.rest_is in
    let row : k / p ≡ r.row = ap (λ k. k / p) (sym r.is) ∙ div-mul-add r.row p r.rest less in
    let rest : k % p ≡ r.rest = ap (λ k. k % p) (sym r.is) ∙ mod-mul-add r.row p r.rest less in
    λ i. row_major (within ((ap pos row ∙ sym w.is) i -ℤ pos s.place) s.extent) (product (extents_of ss)) ((ap (box_cell ss) rest ∙ cell_moved ss zs r.rest r.rest_is) i)
cell_moved [] (z ∷ zs) k h = cc
cell_moved (s ∷ ss) [] k h = cc

-- subscripts of the box are those of a cell
pub record HasCell (o : Option ℕ) : Type 0 where
  pub cell : ℕ
  pub is : o ≡ Some cell

in_row : (a b : Option ℕ) (p : ℕ) → HasCell a → HasCell b → HasCell (row_major a p b)
in_row a b p h k = record { cell = h.cell * p + k.cell; is = λ i. row_major (h.is i) p (k.is i) }

in_span : (z : ℤ) (place extent : ℕ) → pos place ≤ℤ z → z <ℤ pos (place + extent) → HasCell (within (z -ℤ pos place) extent)
in_span (pos k) place extent low high =
    let is : pos k -ℤ pos place ≡ pos (k - place) = omega (arith, ints, low) in
    record { cell = k - place; is = ap (λ z. within z extent) is ∙ within_at (k - place) extent (omega (arith, ints, low, high)) }
in_span (negsuc k) place extent low high = absurd (omega (arith, ints, low))

pub has_cell : (ss : List Side) (zs : List ℤ) → InBox ss zs → HasCell (cell_in (extents_of ss) (from_place ss zs))
has_cell [] [] h = record { cell = 0; is = refl }
has_cell (s ∷ ss) (z ∷ zs) h = in_row (within (z -ℤ pos s.place) s.extent) (cell_in (extents_of ss) (from_place ss zs)) (product (extents_of ss)) (in_span z s.place s.extent h.0 h.1) (has_cell ss zs h.2)
has_cell [] (z ∷ zs) h = absurd h
has_cell (s ∷ ss) [] h = absurd h

-- subscripts that aren't the memref's are, counted so, none of the box's
within_none : (z : ℤ) (size place extent : ℕ) → place + extent ≤ size → within z size ≡ None → within (z -ℤ pos place) extent ≡ None
within_none z size place extent inside h = by (within (z -ℤ pos place) extent) refl
  where
    by : (o : Option ℕ) → within (z -ℤ pos place) extent ≡ o → o ≡ None
    by None e = refl
    by (Some k) e =
        let w = within_is (z -ℤ pos place) extent k e in
        let is = w.is in
        let less = w.less in
        let there : z ≡ pos (place + k) = omega (arith, ints, is) in
        let here : within z size ≡ Some (place + k) = ap (λ z. within z size) there ∙ within_at (place + k) size (omega (arith, less, inside)) in
        let z : None ≡ Some (place + k) = sym h ∙ here in cc

data Missing (a b : Option ℕ) : Type 0 where
  First : a ≡ None → Missing a b
  Second : b ≡ None → Missing a b

row_none : (a b : Option ℕ) (p : ℕ) → row_major a p b ≡ None → Missing a b
row_none (Some a) (Some b) p h = cc
row_none (Some a) None p h = Second refl
row_none None b p h = First refl

none_row : (a b : Option ℕ) (p : ℕ) → Missing a b → row_major a p b ≡ None
none_row a b p (First e) = ap (λ a. row_major a p b) e
none_row a b p (Second e) = ap (row_major a p) e ∙ at a
  where
    at : (a : Option ℕ) → row_major a p None ≡ None
    at (Some a) = refl
    at None = refl

pub cell_outside : (ss : List Side) (zs : List ℤ) → LiesIn ss → cell_in (sizes_of ss) zs ≡ None → cell_in (extents_of ss) (from_place ss zs) ≡ None
cell_outside [] [] l h = cc
cell_outside (s ∷ ss) (z ∷ zs) l h = none_row (within (z -ℤ pos s.place) s.extent) (cell_in (extents_of ss) (from_place ss zs)) (product (extents_of ss)) (by (row_none (within z s.size) (cell_in (sizes_of ss) zs) (product (sizes_of ss)) h) (λ e. cell_outside ss zs l.1 e))
  where
    by : Missing (within z s.size) (cell_in (sizes_of ss) zs) → (cell_in (sizes_of ss) zs ≡ None → cell_in (extents_of ss) (from_place ss zs) ≡ None) → Missing (within (z -ℤ pos s.place) s.extent) (cell_in (extents_of ss) (from_place ss zs))
    by (First e) rest = First (within_none z s.size s.place s.extent l.0 e)
    by (Second e) rest = Second (rest e)
cell_outside [] (z ∷ zs) l h = refl
cell_outside (s ∷ ss) [] l h = refl

-- a slow place of the memref
pub is_of_first : (first : ℕ) (sizes : List ℕ) (k : ℕ) → k < product sizes → is_of first sizes (first + k) ≡ true
is_of_first first sizes k h =
    let a : nat_le first (first + k) ≡ true = le-leb first (first + k) (omega arith) in
    let b : nat_lt (first + k) (first + product sizes) ≡ true = lt-ltb (first + k) (first + product sizes) (omega (arith, h)) in
    λ i. a i && b i

-- an access of the memref, which lies in the box where it lies in the memref, goes where the same access of the fast memref
-- goes, with its subscripts counted from the box's first element
pub access_moved : (first number fast : ℕ) (ss : List Side) (zs : List ℤ) (f : Place → Place)
    → ((p : ℕ) → f (Slow p) ≡ box_place first ss fast p) → f Outside ≡ Outside
    → LiesIn ss → ((k : ℕ) → cell_in (sizes_of ss) zs ≡ Some k → InBox ss zs)
    → half_place fast (1 ∷ extents_of ss) (pos 0 ∷ from_place ss zs) ≡ f (slow_at first (cell_in (sizes_of ss) zs))
access_moved first number fast ss zs f slow outside lies inside = by (cell_in (sizes_of ss) zs) refl
  where
    by : (o : Option ℕ) → cell_in (sizes_of ss) zs ≡ o → half_place fast (1 ∷ extents_of ss) (pos 0 ∷ from_place ss zs) ≡ f (slow_at first o)
    by (Some k) e =
        let cell = has_cell ss zs (inside k e) in
        let back : first + k - first ≡ k = omega arith in
        let here : box_cell ss (first + k - first) ≡ Some cell.cell = ap (box_cell ss) back ∙ cell_moved ss zs k e ∙ cell.is in
        ap (fast_at fast (Some 0)) cell.is
        ∙ sym (slow (first + k) ∙ (λ i. if is_of_first first (sizes_of ss) k (cell_less (sizes_of ss) zs k e) i then moved_to fast (first + k) (here i) else Slow (first + k)))
    by None e = ap (fast_at fast (Some 0)) (cell_outside ss zs lies e) ∙ sym outside
