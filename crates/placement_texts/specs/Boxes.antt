-- A box in a memref, and where its elements go: a cell of a fast memref that holds the box alone, row-major.
use Rattle.std.specs.Prelude.{ℕ, ◌+◌, ◌-◌, ◌/◌, ◌%◌, ◌≤◌, ℤ, pos, ◌-ℤ◌, ◌≤ℤ◌, ◌<ℤ◌, ◌&&◌, Bool, List, [], ◌∷◌, Option, Some, None, nat_le, nat_lt, if◌then◌else◌}
use Rattle.boxes.specs.Boxes.{Side}
use Rattle.affine_ast.specs.Sizes.{product}
use Rattle.direct_meaning.specs.Action.{Place, Slow, Fast}
use Rattle.direct_meaning.specs.Static.{within, row_major}

-- the sizes of the memref, and of the box
abbrev pub sizes_of : List Side → List ℕ
sizes_of [] = []
sizes_of (s ∷ ss) = s.size ∷ sizes_of ss

abbrev pub extents_of : List Side → List ℕ
extents_of [] = []
extents_of (s ∷ ss) = s.extent ∷ extents_of ss

-- the box lies in the memref
abbrev pub LiesIn : List Side → Type 0
LiesIn [] = Unit {0}
LiesIn (s ∷ ss) = (s.place + s.extent ≤ s.size) × LiesIn ss

-- each subscript is one of the box
abbrev pub InBox : List Side → List ℤ → Type 0
InBox [] [] = Unit {0}
InBox (s ∷ ss) (z ∷ zs) = (pos s.place ≤ℤ z) × (z <ℤ pos (s.place + s.extent)) × InBox ss zs
InBox [] (z ∷ zs) = ⊥
InBox (s ∷ ss) [] = ⊥

-- subscripts of the memref, counted from the box's first element on
abbrev pub from_place : List Side → List ℤ → List ℤ
from_place [] zs = zs
from_place (s ∷ ss) [] = []
from_place (s ∷ ss) (z ∷ zs) = (z -ℤ pos s.place) ∷ from_place ss zs

-- the cell of the memref's element of this number, where the box has it
abbrev pub box_cell : List Side → ℕ → Option ℕ
box_cell [] k = Some 0
box_cell (s ∷ ss) k = row_major (within (pos (k / product (sizes_of ss)) -ℤ pos s.place) s.extent)
    (product (extents_of ss)) (box_cell ss (k % product (sizes_of ss)))

-- where an element of the memref goes that has this slow place: to this cell of the fast memref's first half
abbrev pub moved_to : ℕ → ℕ → Option ℕ → Place
moved_to fast p (Some cell) = Fast fast 0 cell
moved_to fast p None = Slow p

-- whether a slow place is one of a memref's of these sizes, which begins at `first`
abbrev pub is_of : ℕ → List ℕ → ℕ → Bool
is_of first sizes p = nat_le first p && nat_lt p (first + product sizes)

-- a slow place, when the box of the memref that begins at `first` is in the fast memref of this number
abbrev pub box_place : ℕ → List Side → ℕ → ℕ → Place
box_place first ss fast p = if is_of first (sizes_of ss) p then moved_to fast p (box_cell ss (p - first)) else Slow p

-- each extent is at least 1
abbrev pub HasElements : List Side → Type 0
HasElements [] = Unit {0}
HasElements (s ∷ ss) = (1 ≤ s.extent) × HasElements ss
