-- Subscripts of any rank: an access of the memref is the access of the fast memref with the places taken away, moved; and the
-- copy loops go through the cells one after the other.
use Rattle.std.proofs.Common.{◌≡◌, ℕ, zero, suc, ◌+◌, ◌-◌, ◌*◌, ◌/◌, ◌%◌, ◌<◌, ◌≤◌, ℤ, pos, negsuc, ◌-ℤ◌, ◌≤ℤ◌, ◌<ℤ◌, List, [], ◌∷◌, refl, sym, ap, ◌∙◌, subst, arith, Bool, true, false, map}
use Rattle.std.specs.Prelude.{Option, Some, None, nat_lt, unsigned_abs, if◌then◌else◌}
use Rattle.std.proofs.lemmas.Nat.{div_below, mod_below, div-add-mod'}
use Rattle.std.proofs.lemmas.Int.{ints}
use Rattle.std.proofs.lemmas.Bool.{lt-ltb, ltb-true}
use Rattle.affine_ast.specs.declared.name.Name.{Name}
use Rattle.direct_meaning.specs.Action.{Place, Slow, Fast, Register, Action, Loads, Stores}
use Rattle.direct_meaning.specs.Static.{product, within, cell_in, slow_at, fast_at}
use Rattle.direct_meaning.specs.Static as static
use Rattle.boxes.specs.Boxes as box
use Rattle.boxes.specs.Boxes.{Side, volume, count, place_at, number_at, InBox, cell}
use Rattle.boxes.proofs.Places.{subscripts_in, place_of_subscripts}
use Rattle.box_run_laws.specs.Layouts.{Numbering, place_moved}
use Rattle.box_run_laws.specs.Boxes.{Half, boxed}
use Rattle.box_run_laws.specs.Templates.{pairs, copies_in, copies_out}
use Rattle.box_run_laws.proofs.RowMajor.{row_major, in_box_moves, nested, digits, nested_is, flat_same, pairs_are, extents, added, extents_count, digits_are}

abbrev pub sizes_of : List Side → List ℕ
sizes_of [] = []
sizes_of (d ∷ ds) = d.size ∷ sizes_of ds

-- subscripts with the places taken away
abbrev pub less_places : List Side → List ℤ → List ℤ
less_places [] zs = zs
less_places (d ∷ ds) [] = []
less_places (d ∷ ds) (z ∷ zs) = (z -ℤ pos d.place) ∷ less_places ds zs

-- subscripts in a box
abbrev pub Inside : List Side → List ℤ → Type 0
Inside [] [] = Unit {0}
Inside [] (z ∷ zs) = ⊥
Inside (d ∷ ds) [] = ⊥
Inside (d ∷ ds) (z ∷ zs) = (pos d.place ≤ℤ z) × (z <ℤ pos (d.place + d.extent)) × Inside ds zs

abbrev naturals : List ℤ → List ℕ
naturals zs = map unsigned_abs zs

sizes_volume : (ds : List Side) → product (sizes_of ds) ≡ volume ds
sizes_volume [] = refl
sizes_volume (d ∷ ds) = ap (λ n. d.size * n) (sizes_volume ds)

within_is : (x n : ℕ) → x < n → within (pos x) n ≡ Some x
within_is x n h = let t : nat_lt x n ≡ true = lt-ltb x n h in ap (λ t. if t then Some x else None) t

-- in the box, both subscripts give their cells
record BothCells (ds : List Side) (zs : List ℤ) : Type 0 where
  in_box : InBox ds (naturals zs)
  slow : cell_in (sizes_of ds) zs ≡ Some (place_at ds (naturals zs))
  fast : cell_in (extents ds) (less_places ds zs) ≡ Some (number_at ds (naturals zs))

both_cells : (ds : List Side) (zs : List ℤ) → box.IsBox ds → Inside ds zs → BothCells ds zs
both_cells [] [] b h = record { in_box = tt; slow = refl; fast = refl }
both_cells [] (z ∷ zs) b h = absurd h
both_cells (d ∷ ds) [] b h = absurd h
both_cells (d ∷ ds) (pos x ∷ zs) b h =
    let rest = both_cells ds zs b.2 h.2 in
    let low : d.place ≤ x = omega (arith, ints, h.0) in
    let high : x < d.place + d.extent = omega (arith, ints, h.1) in
    let back : pos x -ℤ pos d.place ≡ pos (x - d.place) = omega (arith, ints, low) in
    let fits = b.1 in
    let in_size : x < d.size = omega (arith, high, fits) in
    let in_extent : x - d.place < d.extent = omega (arith, low, high) in
    record {
      in_box = (low, high, rest.in_box);
      slow = (λ i. static.row_major (within_is x d.size in_size i) (sizes_volume ds i) (rest.slow i));
      fast = (λ i. static.row_major (within (back i) d.extent) (product (extents ds)) (cell_in (extents ds) (less_places ds zs)))
          ∙ (λ i. static.row_major (within_is (x - d.place) d.extent in_extent i) (extents_count ds i) (rest.fast i));
    }
both_cells (d ∷ ds) (negsuc x ∷ zs) b h = absurd (let k = h.0 in omega (arith, ints, k))

-- and only there does the fast one
within_in : (z : ℤ) (n k : ℕ) → within z n ≡ Some k → (pos 0 ≤ℤ z) × (z <ℤ pos n)
within_in (pos x) n k e = by (nat_lt x n) refl e
  where
    by : (t : Bool) → nat_lt x n ≡ t → (if t then Some x else None) ≡ Some k → (pos 0 ≤ℤ pos x) × (pos x <ℤ pos n)
    by true t e = let l = ltb-true x n t in (omega (arith, ints), omega (arith, ints, l))
    by false t e = let f : None ≡ Some k = e in absurd (cc)
within_in (negsuc x) n k e = let f : None ≡ Some k = e in absurd (cc)

fast_inside : (ds : List Side) (zs : List ℤ) (n : ℕ) → cell_in (extents ds) (less_places ds zs) ≡ Some n → Inside ds zs
fast_inside [] [] n e = tt
fast_inside [] (z ∷ zs) n e = let f : None ≡ Some n = e in absurd (cc)
fast_inside (d ∷ ds) [] n e = let f : None ≡ Some n = e in absurd (cc)
fast_inside (d ∷ ds) (z ∷ zs) n e = by (within (z -ℤ pos d.place) d.extent) (cell_in (extents ds) (less_places ds zs)) refl refl e (λ r g. fast_inside ds zs r g)
  where
    by : (a b : Option ℕ) → within (z -ℤ pos d.place) d.extent ≡ a → cell_in (extents ds) (less_places ds zs) ≡ b → static.row_major a (product (extents ds)) b ≡ Some n
        → ((r : ℕ) → cell_in (extents ds) (less_places ds zs) ≡ Some r → Inside ds zs) → Inside (d ∷ ds) (z ∷ zs)
    by (Some k) (Some r) f g e more = let w = within_in (z -ℤ pos d.place) d.extent k f in let l = w.0 in let h = w.1 in (omega (arith, ints, l), omega (arith, ints, h), more r g)
    by (Some k) None f g e more = let c : None ≡ Some n = e in absurd (cc)
    by None b f g e more = let c : None ≡ Some n = e in absurd (cc)

-- an access that lies in the box, or outside the memref, is moved to the same subscripts less the places
pub redirected : (nu : Numbering) (b : Half) (first : ℕ) (ds : List Side) (zs : List ℤ) → box.IsBox ds → b.count ≡ count ds → ((k : ℕ) → cell_in (sizes_of ds) zs ≡ Some k → Inside ds zs)
    → fast_at b.number (Some b.half) (cell_in (extents ds) (less_places ds zs)) ≡ place_moved nu (boxed b (row_major first ds)) (slow_at first (cell_in (sizes_of ds) zs))
unfolding place_moved
redirected nu b first ds zs i e h = by (cell_in (sizes_of ds) zs) (cell_in (extents ds) (less_places ds zs)) refl refl
  where
    by : (o p : Option ℕ) → cell_in (sizes_of ds) zs ≡ o → cell_in (extents ds) (less_places ds zs) ≡ p → fast_at b.number (Some b.half) p ≡ place_moved nu (boxed b (row_major first ds)) (slow_at first o)
    by (Some k) p f g =
        let c = both_cells ds zs i (h k f) in
        let same : Some k ≡ Some (place_at ds (naturals zs)) = sym f ∙ c.slow in
        let at : k ≡ place_at ds (naturals zs) = cc in
        ap (fast_at b.number (Some b.half)) (sym g ∙ c.fast)
        ∙ sym (in_box_moves nu b first ds (naturals zs) i e c.in_box)
        ∙ ap (λ k. place_moved nu (boxed b (row_major first ds)) (Slow (first + k))) (sym at)
    by None None f g = refl
    by None (Some n) f g =
        let c = both_cells ds zs i (fast_inside ds zs n g) in
        let bad : None ≡ Some (place_at ds (naturals zs)) = sym f ∙ c.slow in
        absurd (cc)

-- ---- the copy loops
-- the subscripts of a box's cell, in the fast memref and in the memref
digits_cell : (es : List ℕ) (t : ℕ) → t < product es → cell_in es (map pos (digits es t)) ≡ Some t
digits_cell [] t h = let e : 0 ≡ t = omega (arith, h) in ap Some e
digits_cell (e ∷ es) t h =
    let m = product es in
    let some = positive t e m h in
    let q = div_below t m e some h in
    let r = digits_cell es (t % m) (mod_below t m some) in
    (λ i. static.row_major (within_is (t / m) e q i) m (r i)) ∙ ap Some (div-add-mod' t m)
  where
    positive : (t e m : ℕ) → t < e * m → 0 < m
    positive t e zero h = absurd (omega (arith, h))
    positive t e (suc m) h = omega arith

inside_of : (ds : List Side) (xs : List ℕ) → InBox ds xs → Inside ds (map pos xs)
inside_of [] [] h = tt
inside_of [] (x ∷ xs) h = absurd h
inside_of (d ∷ ds) [] h = absurd h
inside_of (d ∷ ds) (x ∷ xs) h = let l = h.0 in let k = h.1 in (omega (arith, ints, l), omega (arith, ints, k), inside_of ds xs h.2)

naturals_of : (xs : List ℕ) → naturals (map pos xs) ≡ xs
naturals_of [] = refl
naturals_of (x ∷ xs) = ap (λ l. x ∷ l) (naturals_of xs)

slow_cell : (ds : List Side) (t : ℕ) → box.IsBox ds → t < count ds → cell_in (sizes_of ds) (map pos (added ds (digits (extents ds) t))) ≡ Some (cell ds t)
slow_cell ds t i h =
    let xs = box.subscripts ds t in
    let c = both_cells ds (map pos xs) i (inside_of ds xs (subscripts_in ds t i h)) in
    ap (λ xs. cell_in (sizes_of ds) (map pos xs)) (digits_are ds t) ∙ c.slow ∙ ap (λ xs. Some (place_at ds xs)) (naturals_of xs) ∙ ap Some (place_of_subscripts ds t)

-- the two places of the copy loops' body, at the numbers of the loops
abbrev pub slow_of : ℕ → List Side → List ℕ → Place
slow_of first ds xs = slow_at first (cell_in (sizes_of ds) (map pos (added ds xs)))

abbrev pub fast_of : Half → List Side → List ℕ → Place
fast_of b ds xs = fast_at b.number (Some b.half) (cell_in (extents ds) (map pos xs))

-- loops inside one another, of two actions at the places, go through the cells one after the other
copy_loops : (b : Half) (first : ℕ) (ds : List Side) → box.IsBox ds → b.count ≡ count ds → (f g : Place → Place → Action)
    → nested (extents ds) (λ xs. f (slow_of first ds xs) (fast_of b ds xs) ∷ g (slow_of first ds xs) (fast_of b ds xs) ∷ [])
    ≡ pairs (λ k. f (Slow (row_major first ds k)) (Fast b.number b.half k)) (λ k. g (Slow (row_major first ds k)) (Fast b.number b.half k)) b.count 0
copy_loops b first ds i e f g =
    let n = product (extents ds) in
    let all = extents_count ds in
    nested_is (extents ds) (λ xs. f (slow_of first ds xs) (fast_of b ds xs) ∷ g (slow_of first ds xs) (fast_of b ds xs) ∷ [])
    ∙ flat_same (λ t. f (slow_of first ds (digits (extents ds) t)) (fast_of b ds (digits (extents ds) t)) ∷ g (slow_of first ds (digits (extents ds) t)) (fast_of b ds (digits (extents ds) t)) ∷ [])
    (λ t. f (Slow (row_major first ds t)) (Fast b.number b.half t) ∷ g (Slow (row_major first ds t)) (Fast b.number b.half t) ∷ []) n 0
    (λ t l h.
    let less : t < n = omega (arith, h) in
    let p : slow_of first ds (digits (extents ds) t) ≡ Slow (row_major first ds t) = ap (slow_at first) (slow_cell ds t i (subst (λ n. t < n) all less)) in
    let q : fast_of b ds (digits (extents ds) t) ≡ Fast b.number b.half t = ap (fast_at b.number (Some b.half)) (digits_cell (extents ds) t less) in
    λ j. f (p j) (q j) ∷ g (p j) (q j) ∷ [])
    ∙ pairs_are (λ k. f (Slow (row_major first ds k)) (Fast b.number b.half k)) (λ k. g (Slow (row_major first ds k)) (Fast b.number b.half k)) n 0
    ∙ ap (λ n. pairs (λ k. f (Slow (row_major first ds k)) (Fast b.number b.half k)) (λ k. g (Slow (row_major first ds k)) (Fast b.number b.half k)) n 0) (all ∙ sym e)

pub loops_in : (v : Name) (b : Half) (first : ℕ) (ds : List Side) → box.IsBox ds → b.count ≡ count ds
    → nested (extents ds) (λ xs. Loads v (slow_of first ds xs) ∷ Stores (Register v) (fast_of b ds xs) ∷ []) ≡ copies_in v b (row_major first ds)
loops_in v b first ds i e = copy_loops b first ds i e (λ p q. Loads v p) (λ p q. Stores (Register v) q)

pub loops_out : (v : Name) (b : Half) (first : ℕ) (ds : List Side) → box.IsBox ds → b.count ≡ count ds
    → nested (extents ds) (λ xs. Loads v (fast_of b ds xs) ∷ Stores (Register v) (slow_of first ds xs) ∷ []) ≡ copies_out v b (row_major first ds)
loops_out v b first ds i e = copy_loops b first ds i e (λ p q. Loads v q) (λ p q. Stores (Register v) p)
