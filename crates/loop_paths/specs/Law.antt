-- Paths and the places that they name.
use Rattle.std.specs.Prelude.{◌≡◌, map, take, reverse}
use Rattle.affine_ast.specs.Nest.{Nest}
use Rattle.placement_texts.specs.Spots.{Spot}
use Rattle.placement_stage.specs.Places.{spot_of}
use Rattle.plan_laws.specs.Sites.{path_of, loops_round}
use Rattle.loop_paths.specs.Found.{found_at}

-- a place's path names it
abbrev pub PathsAreSpots : Type 0
PathsAreSpots = (s : Spot) → spot_of (path_of s) ≡ s

-- the beginnings of a place's path that are kept are the paths of the loops round it, from the outside in
abbrev pub BeginningsArePaths : Type 0
BeginningsArePaths = (s : Spot) (n : Nest) → map (λ k. take k (path_of s)) (found_at n s).round ≡ map path_of (reverse (loops_round s n))

-- so they name these loops
abbrev pub BeginningsAreLoops : Type 0
BeginningsAreLoops = (s : Spot) (n : Nest) → map (λ k. spot_of (take k (path_of s))) (found_at n s).round ≡ reverse (loops_round s n)
