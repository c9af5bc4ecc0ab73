-- What placements leave of another loop as it is.
use Rattle.std.specs.Prelude.{◌≡◌, ◌⊎◌, suc, ◌+◌, false, List, length}
use Rattle.affine_ast.specs.declared.name.Name.{Name}
use Rattle.affine_ast.specs.Names.{same_name}
use Rattle.affine_ast.specs.Nest.{Nest}
use Rattle.boxes.specs.Every.{Every}
use Rattle.nest_domain.specs.Ways.{loop_count}
use Rattle.placement_texts.specs.Fold.{Step, staged_all}
use Rattle.placement_texts.specs.Spots.{Spot, IsLoop, HasLine, Disjoint, found}
use Rattle.placement_texts.specs.Template.{Placement, fast_name}
use Rattle.placement_regions.specs.Sites.{from_spot, way_to}
use Rattle.staged_plans.specs.Plans.{uses_there}
use Rattle.plan_laws.specs.Sites.{path_of, loops_round, lined}
use Rattle.text_limits.specs.Adding.{accesses_in_loop, condition_count, Describes}

-- a loop with a line stands there, which is counted over the statements with a line
pub record Stands (t : Spot) (n : Nest) : Type 0 where
  pub loop : IsLoop (found t n) n
  pub line : HasLine (found t n) n

-- in the second text as many loops and conditions stand round it as in the first, and the memref has the same accesses in it
pub record IsLeft (m : Name) (t : Spot) (n n' : Nest) : Type 0 where
  pub stands : Stands t n'
  pub loops : loop_count (way_to (found t n') n') ≡ loop_count (way_to (found t n) n)
  pub ifs : condition_count (way_to (found t n') n') ≡ condition_count (way_to (found t n) n)
  pub accesses : accesses_in_loop m (from_spot (found t n') n') ≡ accesses_in_loop m (from_spot (found t n) n)

-- a placement of another memref, or at a loop apart
pub record LeavesAlone (m : Name) (t : Spot) (p : Placement) (s : Spot) : Type 0 where
  pub fast : same_name m (fast_name p.name) ≡ false
  pub apart : (same_name m p.memref ≡ false) ⊎ Disjoint t s

-- so a text is left with all these placements
abbrev pub PlacementsLeave : Type 0
PlacementsLeave = (m : Name) (t : Spot) (ss : List Step) (n : Nest) → Stands t n → Every (λ x. Stands x.spot n) ss
    → Every (λ x. LeavesAlone m t x.placement x.spot) ss → IsLeft m t n (staged_all ss n)

-- a loop of a module is described in the text with placements that leave it alone, by what stands round it in the module, and by its uses
-- there
abbrev pub PlannedAreDescribed : Type 0
PlannedAreDescribed = (p : Placement) (s : Spot) (n : Nest) (ss : List Step) → IsLoop s n → Every (λ x. IsLoop x.spot n) ss
    → Every (λ x. LeavesAlone p.memref s x.placement x.spot) ss
    → Describes p (loop_count (way_to s n)) (condition_count (way_to s n)) (uses_there n p.memref s) s (staged_all ss (lined n))

-- a loop's path has a step for each loop and condition round it and one for the loop
pub record CountsRounds (s : Spot) (n : Nest) : Type 0 where
  pub loops : length (loops_round s n) ≡ loop_count (way_to s n)
  pub steps : length (path_of s) ≡ suc (loop_count (way_to s n) + condition_count (way_to s n))

abbrev pub RoundsAreCounted : Type 0
RoundsAreCounted = (s : Spot) (n : Nest) → IsLoop s n → CountsRounds s n
