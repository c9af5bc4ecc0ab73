-- Boxes of a row-major memref of any rank, the number of a cell in its box and in the memref, and the transfers that carry them.
use Rattle.std.specs.Prelude.{ℕ, true, false, ◌+◌, ◌-◌, ◌*◌, ◌/◌, ◌%◌, ◌<◌, ◌≤◌, Bool, if◌then◌else◌, nat_eq, List, [], ◌∷◌}

-- one dimension: the memref's size, and the box's place and extent
pub record Side : Type 0 where
  pub size : ℕ
  pub place : ℕ
  pub extent : ℕ

-- the cells of the memref, and of the box
abbrev pub volume : List Side → ℕ
volume [] = 1
volume (d ∷ ds) = d.size * volume ds

abbrev pub count : List Side → ℕ
count [] = 1
count (d ∷ ds) = d.extent * count ds

abbrev pub IsBox : List Side → Type 0
IsBox [] = Unit {0}
IsBox (d ∷ ds) = (0 < d.extent) × (d.place + d.extent ≤ d.size) × IsBox ds

-- the place of an element of the memref, row-major
abbrev pub place_at : List Side → List ℕ → ℕ
place_at [] xs = 0
place_at (d ∷ ds) [] = 0
place_at (d ∷ ds) (x ∷ xs) = x * volume ds + place_at ds xs

-- the number of that element in the box, row-major
abbrev pub number_at : List Side → List ℕ → ℕ
number_at [] xs = 0
number_at (d ∷ ds) [] = 0
number_at (d ∷ ds) (x ∷ xs) = (x - d.place) * count ds + number_at ds xs

abbrev pub InBox : List Side → List ℕ → Type 0
InBox [] [] = Unit {0}
InBox [] (x ∷ xs) = ⊥
InBox (d ∷ ds) [] = ⊥
InBox (d ∷ ds) (x ∷ xs) = (d.place ≤ x) × (x < d.place + d.extent) × InBox ds xs

-- the subscripts of the box's element number t
abbrev pub subscripts : List Side → ℕ → List ℕ
subscripts [] t = []
subscripts (d ∷ ds) t = (d.place + t / count ds) ∷ subscripts ds (t % count ds)

-- its place
abbrev pub cell : List Side → ℕ → ℕ
cell [] t = 0
cell (d ∷ ds) t = (d.place + t / count ds) * volume ds + cell ds (t % count ds)

-- the place of the box's first element, and how far from there its element number t is
abbrev pub first : List Side → ℕ
first [] = 0
first (d ∷ ds) = d.place * volume ds + first ds

abbrev pub far : List Side → ℕ → ℕ
far [] t = 0
far (d ∷ ds) t = (t / count ds) * volume ds + far ds (t % count ds)

-- ---- which boxes one transfer carries
-- How the cells of a box lie in the memref: they are all of it; they are one run; they are runs of c at each s, and the next
-- dimension goes on with them; they are runs of c at each s; or none of these, and then one transfer doesn't carry them.
pub data Shape : Type 0 where
  Whole : Shape
  OneRun : Shape
  Even : ℕ → ℕ → Shape
  Runs : ℕ → ℕ → Shape
  Mixed : Shape

abbrev pub is_whole : Side → Bool
is_whole d = nat_eq d.extent d.size

abbrev pub shape_over : Side → List Side → Shape → Shape
shape_over d ds Whole = if is_whole d then Whole else OneRun
shape_over d ds OneRun = if nat_eq d.extent 1
    then OneRun else (if is_whole d then Even (count ds) (volume ds) else Runs (count ds) (volume ds))
shape_over d ds (Even c s) = if is_whole d then Even c s else Runs c s
shape_over d ds (Runs c s) = if nat_eq d.extent 1 then Runs c s else Mixed
shape_over d ds Mixed = Mixed

abbrev pub shape : List Side → Shape
shape [] = Whole
shape (d ∷ ds) = shape_over d ds (shape ds)

abbrev pub chunk_of : Shape → ℕ → ℕ
chunk_of Whole n = n
chunk_of OneRun n = n
chunk_of (Even c s) n = c
chunk_of (Runs c s) n = c
chunk_of Mixed n = n

abbrev pub stride_of : Shape → ℕ → ℕ
stride_of Whole n = n
stride_of OneRun n = n
stride_of (Even c s) n = s
stride_of (Runs c s) n = s
stride_of Mixed n = n

-- where element e of a transfer lies in the slow memref
abbrev pub slow_at : ℕ → ℕ → ℕ → ℕ → ℕ
slow_at base stride chunk e = base + (e / chunk) * stride + e % chunk

abbrev pub is_mixed : Shape → Bool
is_mixed Whole = false
is_mixed OneRun = false
is_mixed (Even c s) = false
is_mixed (Runs c s) = false
is_mixed Mixed = true
