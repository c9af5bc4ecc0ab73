-- The greatest and the least number of a list of bounds.
use Rattle.std.proofs.Common.{◌≡◌, List, [], ◌∷◌, map, Some, Ok, ℤ, ◌≤ℤ◌, fold, refl, sym, ◌∙◌, ap, arith, subst}
use Rattle.std.proofs.lemmas.Int.{ints}
use Rattle.std.specs.Int.{int_max, int_min}
use Rattle.std.specs.List.{reduce}
use Rattle.num_row.specs.Ints.{narrowed}
use Rattle.num_row.proofs.Narrow.{narrowed_some}
use Rattle.constraint_set.specs.Lists.{Each}
use Rattle.constraint_set.specs.Points.{LinearRow}
use Rattle.constraint_set.specs.Elimination.{◌>>=◌, or_wide}
use Rattle.constraint_set.specs.Reach.{bounds_by}
use Rattle.constraint_set.proofs.Pairs.{ok_of, some_of_wide}

-- bounds that fit are the bounds
pub bounds_are : (bound : LinearRow → ℤ) (rows : List LinearRow) (out : List ℤ) → bounds_by bound rows ≡ Ok out → out ≡ map bound rows
bounds_are bound [] out h = cc
bounds_are bound (r ∷ rs) out h =
    let first = ok_of (or_wide (narrowed (bound r))) (λ first. bounds_by bound rs >>= (λ rest. Ok (first ∷ rest))) out h in
    let second = ok_of (bounds_by bound rs) (λ rest. Ok (first.0 ∷ rest)) out first.1.1 in
    let n = (narrowed_some (bound r) first.0 (some_of_wide (narrowed (bound r)) first.0 first.1.0)).0 in
    let rest = bounds_are bound rs second.0 second.1.0 in
    let e : first.0 ∷ second.0 ≡ out = cc in
    sym e ∙ ap (λ z. z ∷ second.0) (sym n) ∙ ap (λ zs. bound r ∷ zs) rest

max_left : (a b : ℤ) → a ≤ℤ int_max a b
max_left a b = grind (arith, ints)

max_right : (a b : ℤ) → b ≤ℤ int_max a b
max_right a b = grind (arith, ints)

max_least : (a b j : ℤ) → a ≤ℤ j → b ≤ℤ j → int_max a b ≤ℤ j
max_least a b j h k = grind (arith, ints)

min_left : (a b : ℤ) → int_min a b ≤ℤ a
min_left a b = grind (arith, ints)

min_right : (a b : ℤ) → int_min a b ≤ℤ b
min_right a b = grind (arith, ints)

min_greatest : (a b j : ℤ) → j ≤ℤ a → j ≤ℤ b → j ≤ℤ int_min a b
min_greatest a b j h k = grind (arith, ints)

-- ---- the greatest
module _ (f : LinearRow → ℤ) where
  max_above : (rs : List LinearRow) (a m : ℤ) → fold int_max a (map f rs) ≡ m → (a ≤ℤ m) × Each (λ r. f r ≤ℤ m) rs
  max_above [] a m e = (omega (arith, ints, e), tt)
  max_above (r ∷ rs) a m e =
      let rest = max_above rs (int_max a (f r)) m e in
      (omega (arith, ints, rest.0, max_left a (f r)), (omega (arith, ints, rest.0, max_right a (f r)), rest.1))

  max_under : (rs : List LinearRow) (a j : ℤ) → a ≤ℤ j → Each (λ r. f r ≤ℤ j) rs → fold int_max a (map f rs) ≤ℤ j
  max_under [] a j h g = h
  max_under (r ∷ rs) a j h g = max_under rs (int_max a (f r)) j (max_least a (f r) j h g.0) g.1

  -- k is the greatest of the numbers of some rows
  pub record IsMost (rs : List LinearRow) (k : ℤ) : Type 0 where
    pub first : LinearRow
    pub more : List LinearRow
    pub rows : rs ≡ first ∷ more
    pub above : Each (λ r. f r ≤ℤ k) rs
    pub under : (j : ℤ) → Each (λ r. f r ≤ℤ j) rs → k ≤ℤ j

  pub most : (rs : List LinearRow) (k : ℤ) → reduce int_max (map f rs) ≡ Some k → IsMost rs k
  most [] k h = absurd (let x : ⊥ = cc in x)
  most (r ∷ rs) k h =
      let e : fold int_max (f r) (map f rs) ≡ k = cc in
      record { first = r; more = rs; rows = refl; above = max_above rs (f r) k e; under = λ j g. subst (λ z. z ≤ℤ j) e (max_under rs (f r) j g.0 g.1) }

  -- ---- the least
  min_below : (rs : List LinearRow) (a m : ℤ) → fold int_min a (map f rs) ≡ m → (m ≤ℤ a) × Each (λ r. m ≤ℤ f r) rs
  min_below [] a m e = (omega (arith, ints, e), tt)
  min_below (r ∷ rs) a m e =
      let rest = min_below rs (int_min a (f r)) m e in
      (omega (arith, ints, rest.0, min_left a (f r)), (omega (arith, ints, rest.0, min_right a (f r)), rest.1))

  min_over : (rs : List LinearRow) (a j : ℤ) → j ≤ℤ a → Each (λ r. j ≤ℤ f r) rs → j ≤ℤ fold int_min a (map f rs)
  min_over [] a j h g = h
  min_over (r ∷ rs) a j h g = min_over rs (int_min a (f r)) j (min_greatest a (f r) j h g.0) g.1

  pub record IsFewest (rs : List LinearRow) (k : ℤ) : Type 0 where
    pub first : LinearRow
    pub more : List LinearRow
    pub rows : rs ≡ first ∷ more
    pub below : Each (λ r. k ≤ℤ f r) rs
    pub over : (j : ℤ) → Each (λ r. j ≤ℤ f r) rs → j ≤ℤ k

  pub fewest : (rs : List LinearRow) (k : ℤ) → reduce int_min (map f rs) ≡ Some k → IsFewest rs k
  fewest [] k h = absurd (let x : ⊥ = cc in x)
  fewest (r ∷ rs) k h =
      let e : fold int_min (f r) (map f rs) ≡ k = cc in
      record { first = r; more = rs; rows = refl; below = min_below rs (f r) k e; over = λ j g. subst (λ z. j ≤ℤ z) e (min_over rs (f r) j g.0 g.1) }
