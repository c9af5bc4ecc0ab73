-- A box by spans and by a function from cell to slow place: each slow place goes to the same cell.
use Rattle.std.proofs.Common.{◌≡◌, ℕ, ◌+◌, ◌-◌, ◌*◌, ◌/◌, ◌%◌, ◌<◌, ◌≤◌, pos, ◌-ℤ◌, List, [], ◌∷◌, refl, sym, ap, ◌∙◌, subst, arith, Bool, true, false}
use Rattle.std.specs.Prelude.{◌&&◌, Option, Some, None, nat_lt, nat_le, if◌then◌else◌}
use Rattle.std.proofs.lemmas.Int.{ints}
use Rattle.std.proofs.lemmas.Nat.{div_below, mod_below, div-add-mod', div-mul-add, mod-mul-add}
use Rattle.std.proofs.lemmas.Bool.{leb-true, ltb-true}
use Rattle.affine_ast.specs.Sizes.{product}
use Rattle.direct_meaning.specs.Action.{Slow, Fast}
use Rattle.direct_meaning.specs.Static.{within, row_major}
use Rattle.boxes.specs.Boxes.{volume, count, IsBox, cell}
use Rattle.boxes.proofs.Places.{count_pos, count_most, cell_in}
use Rattle.boxes.specs.Boxes.{Side}
use Rattle.placement_texts.specs.Boxes.{sizes_of, extents_of, LiesIn, HasElements, box_cell, is_of, box_place}
use Rattle.placement_texts.specs.Boxes as text
use Rattle.placement_texts.proofs.Cells.{within_is, within_at, row_parts, is_of_first}
use Rattle.box_run_laws.specs.Layouts.{moved_to}
use Rattle.box_run_laws.specs.Boxes.{found, cell_at}
use Rattle.box_run_laws.proofs.Boxes.{found_is, found_none}
use Rattle.staging_laws.specs.Joined.{places_in}

pub is_box : (ss : List Side) → LiesIn ss → HasElements ss → IsBox ss
is_box [] l h = tt
is_box (s ∷ ss) l h = let some = h.0 in (omega (arith, some), l.0, is_box ss l.1 h.1)

pub sizes_volume : (ss : List Side) → product (sizes_of ss) ≡ volume ss
sizes_volume [] = refl
sizes_volume (s ∷ ss) = ap (λ n. s.size * n) (sizes_volume ss)

pub extents_count : (ss : List Side) → product (extents_of ss) ≡ count ss
extents_count [] = refl
extents_count (s ∷ ss) = ap (λ n. s.extent * n) (extents_count ss)

less_place : (a b : ℕ) → pos (a + b) -ℤ pos a ≡ pos b
less_place a b = omega (arith, ints)

-- the place of a cell goes to that cell
pub cell_back : (ss : List Side) → IsBox ss → (k : ℕ) → k < count ss → box_cell ss (cell ss k) ≡ Some k
cell_back [] b k h = let e : 0 ≡ k = omega (arith, h) in ap Some e
cell_back (s ∷ ss) b k h =
    let ds = ss in
    let c = count_pos ds b.2 in
    let r = k % count ds in
    let less = mod_below k (count ds) c in
    let inner = cell_in ds r b.2 less in
    let v = sizes_volume ss in
    let q = (s.place + k / count ds) * volume ds + cell ds r in
    let row : q / product (sizes_of ss) ≡ s.place + k / count ds = ap (λ n. q / n) v ∙ div-mul-add (s.place + k / count ds) (volume ds) (cell ds r) inner in
    let rest : q % product (sizes_of ss) ≡ cell ds r = ap (λ n. q % n) v ∙ mod-mul-add (s.place + k / count ds) (volume ds) (cell ds r) inner in
    let top = div_below k (count ds) s.extent c h in
    (λ i. row_major (within ((ap (λ n. pos n -ℤ pos s.place) row ∙ less_place s.place (k / count ds)) i) s.extent) (extents_count ss i) ((ap (box_cell ss) rest ∙ cell_back ss b.2 r less) i))
    ∙ ap (λ o. row_major o (count ds) (Some r)) (within_at (k / count ds) s.extent top)
    ∙ ap Some (div-add-mod' k (count ds))

-- and a place that goes to a cell is the place of that cell
pub record IsCell (ss : List Side) (q k : ℕ) : Type 0 where
  pub less : k < count ss
  pub is : cell ss k ≡ q

row_of : (q place row : ℕ) → pos q -ℤ pos place ≡ pos row → q ≡ place + row
row_of q place row e = omega (arith, ints, e)

pub cell_found : (ss : List Side) → IsBox ss → (q k : ℕ) → q < product (sizes_of ss) → box_cell ss q ≡ Some k → IsCell ss q k
cell_found [] b q k l h = let e : 0 ≡ k = cc in record { less = omega (arith, e); is = omega (arith, l) }
cell_found (s ∷ ss) b q k l h =
    let ds = ss in
    let p = product (sizes_of ss) in
    let v = sizes_volume ss in
    let c = count_pos ds b.2 in
    let some : 0 < p = (let m = count_most ds b.2 in omega (arith, c, m, v)) in
    let r = row_parts (within (pos (q / p) -ℤ pos s.place) s.extent) (box_cell ss (q % p)) (product (extents_of ss)) k h in
    let w = within_is (pos (q / p) -ℤ pos s.place) s.extent r.row r.row_is in
    let t = cell_found ss b.2 (q % p) r.rest (mod_below q p some) r.rest_is in
    let at : q / p ≡ s.place + r.row = row_of (q / p) s.place r.row w.is in
    let k_is : r.row * count ds + r.rest ≡ k = ap (λ n. r.row * n + r.rest) (sym (extents_count ss)) ∙ r.is in
    let row : k / count ds ≡ r.row = ap (λ k. k / count ds) (sym k_is) ∙ div-mul-add r.row (count ds) r.rest t.less in
    let rest : k % count ds ≡ r.rest = ap (λ k. k % count ds) (sym k_is) ∙ mod-mul-add r.row (count ds) r.rest t.less in
    record {
      less = subst (λ n. n < s.extent * count ds) k_is (below r.row r.rest s.extent (count ds) w.less t.less);
      is = (λ i. (s.place + row i) * volume ds + cell ds (rest i)) ∙ (λ i. sym at i * sym v i + t.is i) ∙ div-add-mod' q p;
    }
  where
    below : (a r n p : ℕ) → a < n → r < p → a * p + r < n * p
    below a r n p h k = grind (arith, h, k)

-- a slow place goes where it lives
in_range : (first size p : ℕ) → (nat_le first p && nat_lt p (first + size)) ≡ true → (first ≤ p) × (p < first + size)
in_range first size p e = by (nat_le first p) (nat_lt p (first + size)) refl refl e
  where
    by : (a b : Bool) → nat_le first p ≡ a → nat_lt p (first + size) ≡ b → (a && b) ≡ true → (first ≤ p) × (p < first + size)
    by true true h k e = (leb-true first p h, ltb-true p (first + size) k)
    by true false h k e = cc
    by false b h k e = cc

pub lives_there : (first fast : ℕ) (ss : List Side) → IsBox ss → (p : ℕ) → box_place first ss fast p ≡ moved_to p (cell_at fast 0 (found (places_in first ss) (product (extents_of ss)) p))
lives_there first fast ss b p = by (found (places_in first ss) (product (extents_of ss)) p) refl
  where
    inside : (k : ℕ) → k < product (extents_of ss) → cell ss k < product (sizes_of ss)
    inside k h = subst (λ n. cell ss k < n) (sym (sizes_volume ss)) (cell_in ss k b (subst (λ n. k < n) (extents_count ss) h))

    here : (k : ℕ) → k < product (extents_of ss) → box_place first ss fast (first + cell ss k) ≡ Fast fast 0 k
    here k h =
        let q = cell ss k in
        let back : first + q - first ≡ q = omega arith in
        let at : box_cell ss (first + q - first) ≡ Some k = ap (box_cell ss) back ∙ cell_back ss b k (subst (λ n. k < n) (extents_count ss) h) in
        λ i. if is_of_first first (sizes_of ss) q (inside k h) i then text.moved_to fast (first + q) (at i) else Slow (first + q)

    nowhere : found (places_in first ss) (product (extents_of ss)) p ≡ None → (t : Bool) → is_of first (sizes_of ss) p ≡ t → (o : Option ℕ) → box_cell ss (p - first) ≡ o → (if t then text.moved_to fast p o else Slow p) ≡ Slow p
    nowhere n false e o f = refl
    nowhere n true e None f = refl
    nowhere n true e (Some k) f =
        let range = in_range first (product (sizes_of ss)) p e in
        let low = range.0 in
        let high = range.1 in
        let c = cell_found ss b (p - first) k (omega (arith, low, high)) f in
        let same = c.is in
        absurd (found_none (places_in first ss) (product (extents_of ss)) p n k (subst (λ n. k < n) (sym (extents_count ss)) c.less) (omega (arith, same, low)))

    by : (o : Option ℕ) → found (places_in first ss) (product (extents_of ss)) p ≡ o → box_place first ss fast p ≡ moved_to p (cell_at fast 0 o)
    by (Some k) e = let f = found_is (places_in first ss) (product (extents_of ss)) p k e in ap (box_place first ss fast) (sym f.is) ∙ here k f.less
    by None e = nowhere e (is_of first (sizes_of ss) p) refl (box_cell ss (p - first)) refl
