-- Dimensions by number.
use Rattle.std.specs.Prelude.{ℕ, zero, suc, pos, List, [], ◌∷◌}
use Rattle.nest_domain.specs.Boxes.{Dimension}
use Rattle.access_region.specs.Widening.{whole_dim}

-- the dimension of this number is made whole
abbrev pub whole_at : ℕ → List Dimension → List ℕ → List Dimension
whole_at k [] ns = []
whole_at k (d ∷ ds) [] = d ∷ ds
whole_at zero (d ∷ ds) (n ∷ ns) = whole_dim d (pos n) ∷ ds
whole_at (suc k) (d ∷ ds) (n ∷ ns) = d ∷ whole_at k ds ns
