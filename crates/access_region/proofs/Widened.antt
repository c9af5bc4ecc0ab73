-- A widened region lies within the memref too, and holds what the region holds.
use Rattle.std.proofs.Common.{◌≡◌, ℕ, zero, suc, Bool, true, false, cond, List, [], ◌∷◌, length, get_or, ℤ, pos, ◌+ℤ◌, ◌≤ℤ◌, ◌<ℤ◌, refl, sym, ap, subst, arith}
use Rattle.std.proofs.lemmas.Int.{ints}
use Rattle.affine_expr.specs.Forms.{dot}
use Rattle.affine_expr.proofs.FormValues.{dot-zeros}
use Rattle.nest_domain.specs.Boxes.{Dimension, place_at, AllWithin}
use Rattle.access_region.specs.Widening.{Side, sides, shape, is_mixed, all_whole, made_whole, last_whole, widened_by, dims_of, widened, for_transfers}
use Rattle.access_region.specs.Laws.{AllInside}

-- the sides are of these sizes
abbrev HasSizes : List Side → List ℕ → Type 0
HasSizes [] [] = Unit {0}
HasSizes [] (n ∷ ns) = ⊥
HasSizes (d ∷ ds) [] = ⊥
HasSizes (d ∷ ds) (n ∷ ns) = (d.size ≡ pos n) × HasSizes ds ns

last_sizes : (ds : List Side) (ns : List ℕ) → HasSizes ds ns → HasSizes (last_whole ds) ns
last_sizes [] [] h = tt
last_sizes [] (n ∷ ns) h = absurd h
last_sizes (d ∷ ds) [] h = absurd h
last_sizes (d ∷ ds) (n ∷ ns) h = by (all_whole ds) (last_sizes ds ns h.1)
  where
    by : (b : Bool) → HasSizes (last_whole ds) ns → HasSizes (cond b (made_whole d ∷ ds) (d ∷ last_whole ds)) (n ∷ ns)
    by true k = h
    by false k = (h.0, k)

widened_sizes : (m : ℕ) (ds : List Side) (ns : List ℕ) → HasSizes ds ns → HasSizes (widened_by m ds) ns
widened_sizes zero ds ns h = h
widened_sizes (suc m) ds ns h = by (is_mixed (shape ds)) (widened_sizes m (last_whole ds) ns (last_sizes ds ns h))
  where
    by : (b : Bool) → HasSizes (widened_by m (last_whole ds)) ns → HasSizes (cond b (widened_by m (last_whole ds)) ds) ns
    by true k = k
    by false k = h

-- a fact of each dimension, with its number and size, that holds of whole ones
module _ (P : ℕ → Dimension → ℤ → Type 0) (whole : (n : ℕ) (d : Side) → P n (made_whole d).dim d.size) where
  abbrev AllOf : ℕ → List Dimension → List ℕ → Type 0
  AllOf n [] [] = Unit {0}
  AllOf n [] (s ∷ ns) = ⊥
  AllOf n (d ∷ ds) [] = ⊥
  AllOf n (d ∷ ds) (s ∷ ns) = P n d (pos s) × AllOf (suc n) ds ns

  abbrev OfSides : ℕ → List Side → Type 0
  OfSides n [] = Unit {0}
  OfSides n (d ∷ ds) = P n d.dim d.size × OfSides (suc n) ds

  to_sides : (n : ℕ) (ds : List Dimension) (ns : List ℕ) → AllOf n ds ns → OfSides n (sides ds ns) × HasSizes (sides ds ns) ns
  to_sides n [] [] h = (tt, tt)
  to_sides n [] (s ∷ ns) h = absurd h
  to_sides n (d ∷ ds) [] h = absurd h
  to_sides n (d ∷ ds) (s ∷ ns) h = let k = to_sides (suc n) ds ns h.1 in ((h.0, k.0), (refl, k.1))

  from_sides : (n : ℕ) (ds : List Side) (ns : List ℕ) → OfSides n ds → HasSizes ds ns → AllOf n (dims_of ds) ns
  from_sides n [] [] h k = tt
  from_sides n [] (s ∷ ns) h k = absurd k
  from_sides n (d ∷ ds) [] h k = absurd k
  from_sides n (d ∷ ds) (s ∷ ns) h k = (subst (λ z. P n d.dim z) k.0 h.0, from_sides (suc n) ds ns h.1 k.1)

  last_keeps : (n : ℕ) (ds : List Side) → OfSides n ds → OfSides n (last_whole ds)
  last_keeps n [] h = tt
  last_keeps n (d ∷ ds) h = by (all_whole ds) (last_keeps (suc n) ds h.1)
    where
      by : (b : Bool) → OfSides (suc n) (last_whole ds) → OfSides n (cond b (made_whole d ∷ ds) (d ∷ last_whole ds))
      by true k = (whole n d, h.1)
      by false k = (h.0, k)

  widened_keeps : (m : ℕ) (ds : List Side) → OfSides 0 ds → OfSides 0 (widened_by m ds)
  widened_keeps zero ds h = h
  widened_keeps (suc m) ds h = by (is_mixed (shape ds)) (widened_keeps m (last_whole ds) (last_keeps 0 ds h))
    where
      by : (b : Bool) → OfSides 0 (widened_by m (last_whole ds)) → OfSides 0 (cond b (widened_by m (last_whole ds)) ds)
      by true k = k
      by false k = h

  all_kept : (dma : Bool) (ds : List Dimension) (ns : List ℕ) → AllOf 0 ds ns → AllOf 0 (for_transfers dma ns ds) ns
  unfolding widened
  all_kept false ds ns h = h
  all_kept true ds ns h =
      let k = to_sides 0 ds ns h in
      from_sides 0 (widened_by (length ds) (sides ds ns)) ns (widened_keeps (length ds) (sides ds ns) k.0) (widened_sizes (length ds) (sides ds ns) ns k.1)

-- ---- the facts of regions
whole_place : (d : Side) (os : List ℤ) → place_at (made_whole d).dim d.size (dot (made_whole d).dim.coefs os) ≡ pos 0
unfolding place_at
whole_place d os = ap (λ z. z +ℤ pos 0) (dot-zeros (length d.dim.coefs) os)

module _ (os : List ℤ) where
  Within_ : ℕ → Dimension → ℤ → Type 0
  Within_ n d size = (pos 0 ≤ℤ place_at d size (dot d.coefs os)) × ((place_at d size (dot d.coefs os) +ℤ d.extent) ≤ℤ size)

  whole_within : (n : ℕ) (d : Side) → Within_ n (made_whole d).dim d.size
  unfolding Within_
  whole_within n d = (subst (λ z. pos 0 ≤ℤ z) (sym (whole_place d os)) (omega (arith, ints)), subst (λ z. (z +ℤ d.size) ≤ℤ d.size) (sym (whole_place d os)) (omega (arith, ints)))

  to_within : (n : ℕ) (ds : List Dimension) (ns : List ℕ) → AllOf Within_ whole_within n ds ns → AllWithin ds ns os
  unfolding Within_
  to_within n [] [] h = tt
  to_within n [] (s ∷ ns) h = absurd h
  to_within n (d ∷ ds) [] h = absurd h
  to_within n (d ∷ ds) (s ∷ ns) h = (h.0.0, h.0.1, to_within (suc n) ds ns h.1)

  of_within : (n : ℕ) (ds : List Dimension) (ns : List ℕ) → AllWithin ds ns os → AllOf Within_ whole_within n ds ns
  unfolding Within_
  of_within n [] [] h = tt
  of_within n [] (s ∷ ns) h = absurd h
  of_within n (d ∷ ds) [] h = absurd h
  of_within n (d ∷ ds) (s ∷ ns) h = ((h.0, h.1), of_within (suc n) ds ns h.2)

  pub within_kept : (dma : Bool) (ds : List Dimension) (ns : List ℕ) → AllWithin ds ns os → AllWithin (for_transfers dma ns ds) ns os
  within_kept dma ds ns h = to_within 0 (for_transfers dma ns ds) ns (all_kept Within_ whole_within dma ds ns (of_within 0 ds ns h))

  module _ (vs : List ℤ) where
    Inside_ : ℕ → Dimension → ℤ → Type 0
    Inside_ n d size = pos 0 ≤ℤ get_or vs n (pos 0) → get_or vs n (pos 0) <ℤ size → (place_at d size (dot d.coefs os) ≤ℤ get_or vs n (pos 0)) × (get_or vs n (pos 0) <ℤ (place_at d size (dot d.coefs os) +ℤ d.extent))

    whole_inside : (n : ℕ) (d : Side) → Inside_ n (made_whole d).dim d.size
    unfolding Inside_
    whole_inside n d low high = (subst (λ z. z ≤ℤ get_or vs n (pos 0)) (sym (whole_place d os)) low, subst (λ z. get_or vs n (pos 0) <ℤ (z +ℤ d.size)) (sym (whole_place d os)) (omega (arith, ints, high)))

    to_inside : (n : ℕ) (ds : List Dimension) (ns : List ℕ) → AllOf Inside_ whole_inside n ds ns → AllInside n ds ns os vs
    unfolding Inside_
    to_inside n [] [] h = tt
    to_inside n [] (s ∷ ns) h = absurd h
    to_inside n (d ∷ ds) [] h = absurd h
    to_inside n (d ∷ ds) (s ∷ ns) h = (h.0, to_inside (suc n) ds ns h.1)

    of_inside : (n : ℕ) (ds : List Dimension) (ns : List ℕ) → AllInside n ds ns os vs → AllOf Inside_ whole_inside n ds ns
    unfolding Inside_
    of_inside n [] [] h = tt
    of_inside n [] (s ∷ ns) h = absurd h
    of_inside n (d ∷ ds) [] h = absurd h
    of_inside n (d ∷ ds) (s ∷ ns) h = (h.0, of_inside (suc n) ds ns h.1)

    pub inside_kept : (dma : Bool) (ds : List Dimension) (ns : List ℕ) → AllInside 0 ds ns os vs → AllInside 0 (for_transfers dma ns ds) ns os vs
    inside_kept dma ds ns h = to_inside 0 (for_transfers dma ns ds) ns (all_kept Inside_ whole_inside dma ds ns (of_inside 0 ds ns h))
