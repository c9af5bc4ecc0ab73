-- What the halves of a fast memref are seen as.
use Rattle.std.specs.Prelude.{◌≡◌, ℕ, ℤ, List, length, map, Option, Some, None}
use Rattle.fast_halves.specs.declared.Half.{Half}
use Rattle.fast_halves.specs.declared.Half.TheVariants.{Here, Away}

-- a half is here with its cells, or away with a tag
pub data HalfShape : Type 0 where
  here : List ℤ → HalfShape
  away : ℕ → HalfShape

-- the number of cells of each half, and the halves
pub record HalvesShape : Type 0 where
  pub cells : ℕ
  pub halves : List HalfShape

abbrev pub IsHere : HalfShape → Type 0
IsHere (here c) = Unit {0}
IsHere (away t) = ⊥

-- there is such a half, and it is away
abbrev pub IsAway : Option HalfShape → Type 0
IsAway None = ⊥
IsAway (Some (here c)) = ⊥
IsAway (Some (away t)) = Unit {0}

abbrev pub shape : Half → HalfShape
shape (Here v) = here v.items
shape (Away t) = away t

abbrev pub shapes : List Half → List HalfShape
shapes hs = map shape hs

-- a half that is here has so many cells
abbrev pub Fitting : ℕ → Half → Type 0
Fitting n (Here v) = length v.items ≡ n
Fitting n (Away t) = Unit {0}

-- a half is here, with so many cells
abbrev pub IsHereWith : ℕ → Half → Type 0
IsHereWith n (Here v) = length v.items ≡ n
IsHereWith n (Away t) = ⊥
