-- The loops of a text in the order in which they end, and how places lie to one another.
use Rattle.std.specs.Prelude.{Bool, true, false, ◌||◌, List, [], ◌∷◌, ◌++◌, map}
use Rattle.affine_ast.specs.Nest.{Nest, Nothing, Loop, Branch, Does}
use Rattle.nest_domain.specs.Ways as ways
use Rattle.nest_domain.specs.Ways.{Header}
use Rattle.placement_texts.specs.Spots.{Spot, Here, Behind, Inside, Other}

-- a loop comes after every loop in it
abbrev pub loops_by_end : Nest → List Spot
loops_by_end Nothing = []
loops_by_end (Loop line v l u step body rest) = map Inside (loops_by_end body) ++ (Here ∷ map Behind (loops_by_end rest))
loops_by_end (Branch line set names first has other rest) =
    map Inside (loops_by_end first) ++ (map Other (loops_by_end other) ++ map Behind (loops_by_end rest))
loops_by_end (Does line q rest) = map Behind (loops_by_end rest)

abbrev pub same_spot : Spot → Spot → Bool
same_spot Here Here = true
same_spot (Behind s) (Behind t) = same_spot s t
same_spot (Inside s) (Inside t) = same_spot s t
same_spot (Other s) (Other t) = same_spot s t
same_spot s t = false

-- the second place lies in the statement at the first
abbrev pub lies_in : Spot → Spot → Bool
lies_in Here (Inside t) = true
lies_in Here (Other t) = true
lies_in (Behind s) (Behind t) = lies_in s t
lies_in (Inside s) (Inside t) = lies_in s t
lies_in (Other s) (Other t) = lies_in s t
lies_in s t = false

abbrev pub one_lies_in : Spot → List Spot → Bool
one_lies_in s [] = false
one_lies_in s (t ∷ ts) = lies_in s t || one_lies_in s ts

-- this place is the first of a list
abbrev pub is_first : Spot → List Spot → Bool
is_first s [] = false
is_first s (t ∷ ts) = same_spot s t

-- the innermost region at the end of a way is a loop's body; `so` where the way enters no region
abbrev pub ends_in_loop : Bool → List Header → Bool
ends_in_loop so [] = so
ends_in_loop so (ways.Round v l u s ∷ hs) = ends_in_loop true hs
ends_in_loop so (ways.Given set names ∷ hs) = ends_in_loop false hs
ends_in_loop so (ways.Except set names first ∷ hs) = ends_in_loop false hs
ends_in_loop so (ways.Behind q ∷ hs) = ends_in_loop so hs
ends_in_loop so (ways.Past n ∷ hs) = ends_in_loop so hs
