-- A loop of a text by its path, with the loops round it.
use Rattle.std.specs.Prelude.{ℕ, Bool, List, map, length, reverse}
use Rattle.affine_ast.specs.Nest.{Nest}
use Rattle.placement_texts.specs.Spots.{Spot}
use Rattle.plan_laws.specs.Sites.{path_of, loops_round}
use Rattle.loop_paths.specs.declared.paths.LoopPath.{LoopPath}

-- a loop's path, and how many of its steps name each loop round it, from the outside in
pub record Found : Type 0 where
  pub steps : List (ℕ × Bool)
  pub round : List ℕ

abbrev pub found_of : LoopPath → Found
found_of p = record { steps = p.at.steps; round = p.round.items }

-- the path of a loop's place, and how long the paths of the loops round it are
abbrev pub found_at : Nest → Spot → Found
found_at n s = record { steps = path_of s; round = map (λ t. length (path_of t)) (reverse (loops_round s n)) }
