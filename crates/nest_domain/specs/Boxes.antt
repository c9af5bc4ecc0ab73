-- Boxes of a memref's elements, and where they lie at a turn of the loops round a place.
use Rattle.std.specs.Prelude.{◌≡◌, ℕ, ℤ, pos, ◌+ℤ◌, ◌-ℤ◌, ◌≤ℤ◌, ◌<ℤ◌, Bool, if◌then◌else◌, List, [], ◌∷◌, length, slice_index_or, slice_set}
use Rattle.std.specs.Int.{int_min, int_max}
use Rattle.constraint_set.specs.Lists.{Each}
use Rattle.affine_expr.specs.Forms.{dot}

-- one dimension of a box: the combination of the outer variables and the offset give its place, and it has so many numbers.
-- Where it is clamped it is moved into the memref
pub record Dimension : Type 0 where
  pub coefs : List ℤ
  pub offset : ℤ
  pub extent : ℤ
  pub clamped : Bool

-- the place in a dimension of this size, from the value of the combination
unfoldable pub place_at : Dimension → ℤ → ℤ → ℤ
place_at d size x = if d.clamped then int_max (pos 0) (int_min (x +ℤ d.offset) (size -ℤ d.extent)) else x +ℤ d.offset

-- the place where the outer variables have these values
abbrev pub begins_at : Dimension → ℕ → List ℤ → ℤ
begins_at d size os = place_at d (pos size) (dot d.coefs os)

-- the box lies within the memref's sizes
abbrev pub AllWithin : List Dimension → List ℕ → List ℤ → Type 0
AllWithin [] [] os = Unit {0}
AllWithin [] (size ∷ sizes) os = ⊥
AllWithin (d ∷ ds) [] os = ⊥
AllWithin (d ∷ ds) (size ∷ sizes) os = (pos 0 ≤ℤ begins_at d size os) × ((begins_at d size os +ℤ d.extent) ≤ℤ pos size) × AllWithin ds sizes os

-- in each dimension a number of the box, from its place on
abbrev pub AllIn : List Dimension → List ℕ → List ℤ → List ℤ → Type 0
AllIn [] [] os [] = Unit {0}
AllIn (d ∷ ds) (size ∷ sizes) os (x ∷ xs) = (begins_at d size os ≤ℤ x) × (x <ℤ (begins_at d size os +ℤ d.extent)) × AllIn ds sizes os xs
AllIn ds sizes os xs = ⊥

-- each dimension has a coefficient for each of so many outer variables
abbrev pub AreOver : ℕ → List Dimension → Type 0
AreOver n ds = Each (λ d. length d.coefs ≡ n) ds

-- the outer variables where a loop's variable, of number i, is later by t
abbrev pub later_turn : List ℤ → ℕ → ℤ → List ℤ
later_turn os i t = slice_set os i (slice_index_or os i (pos 0) +ℤ t)
