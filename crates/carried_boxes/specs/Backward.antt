-- Whether one transfer carries a box: a test that goes backward from the last dimension. A transfer has one chunk and one stride.
use Rattle.std.specs.Prelude.{ℕ, Bool, true, ◌&&◌, if◌then◌else◌, nat_eq, nat_lt, List, [], ◌∷◌, ◌++◌, reverse, Option, Some, None}
use Rattle.boxes.specs.Boxes.{Side, volume, count, is_whole}

-- ---- of dimensions from the last one backward
-- the whole ones are taken up to the first that isn't whole, and that one is taken too
abbrev pub taken : List Side → List Side
taken [] = []
taken (d ∷ ds) = if is_whole d then d ∷ taken ds else d ∷ []

-- those that come then
abbrev pub left : List Side → List Side
left [] = []
left (d ∷ ds) = if is_whole d then left ds else ds

-- those up to the first with an extent above 1, without it
abbrev pub ones : List Side → List Side
ones [] = []
ones (d ∷ ds) = if nat_lt 1 d.extent then [] else d ∷ ones ds

-- those from it on: none where no extent is above 1
abbrev pub from_more : List Side → List Side
from_more [] = []
from_more (d ∷ ds) = if nat_lt 1 d.extent then d ∷ ds else from_more ds

abbrev pub all_one : List Side → Bool
all_one [] = true
all_one (d ∷ ds) = nat_eq d.extent 1 && all_one ds

-- ---- of a box
-- the dimensions of the chunk are taken first; from the next one on with an extent above 1, chunks repeat
abbrev pub repeated : List Side → List Side
repeated ds = from_more (left (reverse ds))

-- there again the whole ones are taken and the first that isn't, and all that are left have extent 1
abbrev pub is_carried : List Side → Bool
is_carried ds = all_one (left (repeated ds))

-- the elements of the dimensions that are taken
abbrev pub chunk : List Side → ℕ
chunk ds = count (taken (reverse ds))

-- the memref's elements behind the first dimension in which chunks repeat
abbrev pub stride : List Side → ℕ
stride ds = volume (taken (reverse ds) ++ ones (left (reverse ds)))

-- there is one chunk where none repeats, and no stride
abbrev pub chunks_by : List Side → List Side → Option (ℕ × ℕ)
chunks_by ds [] = None
chunks_by ds (b ∷ bs) = Some (stride ds, chunk ds)

abbrev pub chunks : List Side → Option (ℕ × ℕ)
chunks ds = chunks_by ds (repeated ds)
