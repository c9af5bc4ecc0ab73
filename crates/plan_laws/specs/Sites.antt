-- Loops of a text by where they stand: those at a depth, those round one, and the path of one.
use Rattle.std.specs.Prelude.{◌≡◌, ℕ, zero, suc, Bool, true, false, List, [], ◌∷◌, ◌++◌, map, Some}
use Rattle.affine_ast.specs.Nest.{Nest, Nothing, Loop, Branch, Does}
use Rattle.nest_domain.specs.Ways.{at_path}
use Rattle.placement_texts.specs.Spots.{Spot, Here, Behind, Inside, Other, IsLoop}
use Rattle.placement_regions.specs.Sites.{from_spot, way_to}

-- the position in its list of the statement of that list in which a place lies, and the positions from there inward. A position of an
-- `else` region has the mark `true`
abbrev pub position : Spot → ℕ
position Here = 0
position (Behind s) = suc (position s)
position (Inside s) = 0
position (Other s) = 0

abbrev pub further : Spot → List (ℕ × Bool)
further Here = []
further (Behind s) = further s
further (Inside s) = (position s, false) ∷ further s
further (Other s) = (position s, true) ∷ further s

-- the path that names it
abbrev pub path_of : Spot → List (ℕ × Bool)
path_of s = (position s, false) ∷ further s

-- a loop's path names it
abbrev pub LoopsAreNamed : Type 0
LoopsAreNamed = (s : Spot) (n : Nest) → IsLoop s n → at_path n (path_of s) ≡ Some (record { way = way_to s n; here = from_spot s n })

-- the loops with exactly so many loops round them, in text order
abbrev pub loops_at : ℕ → Nest → List Spot
loops_at depth Nothing = []
loops_at zero (Loop line v l u step body rest) = Here ∷ map Behind (loops_at zero rest)
loops_at (suc depth)
    (Loop line v l u step body rest) = map Inside (loops_at depth body) ++ map Behind (loops_at (suc depth) rest)
loops_at depth (Branch line set names first has other rest) =
    map Inside (loops_at depth first) ++ (map Other (loops_at depth other) ++ map Behind (loops_at depth rest))
loops_at depth (Does line q rest) = map Behind (loops_at depth rest)

-- the loops round a place, from the nearest outward
abbrev pub loops_round : Spot → Nest → List Spot
loops_round Here n = []
loops_round (Behind s) (Loop line v l u step body rest) = map Behind (loops_round s rest)
loops_round (Behind s) (Branch line set names first has other rest) = map Behind (loops_round s rest)
loops_round (Behind s) (Does line q rest) = map Behind (loops_round s rest)
loops_round (Inside s) (Loop line v l u step body rest) = map Inside (loops_round s body) ++ Here ∷ []
loops_round (Inside s) (Branch line set names first has other rest) = map Inside (loops_round s first)
loops_round (Other s) (Branch line set names first has other rest) = map Other (loops_round s other)
loops_round s n = []

-- the second place is the first one, or lies in its loop
abbrev pub Holds : Spot → Spot → Type 0
Holds Here Here = Unit {0}
Holds Here (Inside s) = Unit {0}
Holds (Behind t) (Behind s) = Holds t s
Holds (Inside t) (Inside s) = Holds t s
Holds (Other t) (Other s) = Holds t s
Holds t s = ⊥

-- the line of the first statement
abbrev pub line_of : Nest → ℕ
line_of Nothing = 0
line_of (Loop line v l u s body rest) = line
line_of (Branch line set names first has other rest) = line
line_of (Does line p rest) = line

-- the text with a line for each statement, as each text of a module has: by their lines templates tell the module's own statements from
-- those that other templates made
abbrev pub line_or_one : ℕ → ℕ
line_or_one zero = 1
line_or_one (suc line) = suc line

abbrev pub lined : Nest → Nest
lined Nothing = Nothing
lined (Loop line v l u s body rest) = Loop (line_or_one line) v l u s (lined body) (lined rest)
lined (Branch line set names first has other rest) = Branch (line_or_one line) set names (lined first) has (lined other) (lined rest)
lined (Does line p rest) = Does (line_or_one line) p (lined rest)
