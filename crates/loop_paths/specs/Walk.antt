-- The loops of a list of statements as a walk comes to them, behind the steps that lead to the list.
use Rattle.std.specs.Prelude.{ℕ, ◌+◌, Bool, List, [], ◌∷◌, ◌++◌, map, length}
use Rattle.affine_ast.specs.Nest.{Nest, Loop, Branch, Does}
use Rattle.placement_texts.specs.Spots.{Spot, Behind, Inside, Other}
use Rattle.plan_laws.specs.Sites.{position, further, loops_at}
use Rattle.loop_paths.specs.Found.{Found}

-- the loops round a place, from the outside in, by how many steps name each, where so many name a statement of this list
abbrev pub rounds : ℕ → Spot → Nest → List ℕ
rounds d (Behind s) (Loop line v l u step body rest) = rounds d s rest
rounds d (Behind s) (Branch line set names first has other rest) = rounds d s rest
rounds d (Behind s) (Does line q rest) = rounds d s rest
rounds d (Inside s) (Loop line v l u step body rest) = d ∷ rounds (d + 1) s body
rounds d (Inside s) (Branch line set names first has other rest) = rounds (d + 1) s first
rounds d (Other s) (Branch line set names first has other rest) = rounds (d + 1) s other
rounds d s n = []

-- a place in a list of statements that begins at this position of a region, which is the `else` region where it is marked. These steps
-- lead to the statement whose region it is, and these loops stand round it
abbrev pub found_under : List (ℕ × Bool) → List ℕ → Bool → ℕ → Nest → Spot → Found
found_under outer round other k n s = record {
  steps = outer ++ (k + position s, other) ∷ further s;
  round = round ++ rounds (length outer + 1) s n;
}

unfoldable pub found_in : ℕ → List (ℕ × Bool) → List ℕ → Bool → ℕ → Nest → List Found
found_in depth outer round other k n = map (found_under outer round other k n) (loops_at depth n)
