-- A region for transfers: dimensions are made whole, from the last on, until one transfer carries the box.
use Rattle.std.specs.Prelude.{◌≡◌, ℕ, zero, suc, ℤ, pos, ◌≤ℤ◌, true, false, List, [], ◌∷◌, ◌++◌}
use Rattle.direct_meaning.specs.Turns.{gap}
use Rattle.boxes.specs.Boxes as box
use Rattle.nest_domain.specs.Boxes.{Dimension}
use Rattle.access_region.specs.Widening.{Side, sides, is_whole, all_whole, made_whole, dims_of, widened}
use Rattle.carried_boxes.specs.Backward.{is_carried}

-- the numbers of a dimension of a region
abbrev pub flat : Side → box.Side
flat d = record { size = gap d.size; place = 0; extent = gap d.dim.extent }

abbrev pub all_flat : List Side → List box.Side
all_flat [] = []
all_flat (d ∷ ds) = flat d ∷ all_flat ds

-- the last dimension that isn't whole is made whole
pub record MadeWhole (ds next : List Side) : Type 0 where
  pub front : List Side
  pub dim : Side
  pub behind : List Side
  pub is : ds ≡ front ++ dim ∷ behind
  pub partial : is_whole dim ≡ false
  pub whole : all_whole behind ≡ true
  pub made : next ≡ front ++ made_whole dim ∷ behind

-- after so many times the test passes, and it didn't before
abbrev pub WidensIn : ℕ → List Side → List Side → Type 0
WidensIn zero ds end = (is_carried (all_flat ds) ≡ true) × (end ≡ ds)
WidensIn (suc n) ds end = (is_carried (all_flat ds) ≡ false) × ((next : List Side) × (MadeWhole ds next × WidensIn n next end))

-- each dimension has an extent and a size of at least 1
abbrev pub HaveElements : List Dimension → List ℕ → Type 0
HaveElements [] ns = Unit {0}
HaveElements (d ∷ ds) [] = Unit {0}
HaveElements (d ∷ ds) (n ∷ ns) = (pos 1 ≤ℤ d.extent) × (pos 1 ≤ℤ pos n) × HaveElements ds ns

-- so is each region widened
abbrev pub WidensUntilCarried : Type 0
WidensUntilCarried = (ds : List Dimension) (ns : List ℕ) → HaveElements ds ns
    → (n : ℕ) × (end : List Side) × WidensIn n (sides ds ns) end × (widened ds ns ≡ dims_of end)
