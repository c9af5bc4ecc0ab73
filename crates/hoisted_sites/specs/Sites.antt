-- Loops and regions of a plan as code has them.
use Rattle.std.specs.Prelude.{◌≡◌, List, Some, Result, Ok, Err}
use Rattle.affine_ast.specs.declared.image.Path.{Path}
use Rattle.affine_ast.specs.Nest.{Nest}
use Rattle.nest_domain.specs.Boxes.{Dimension}
use Rattle.nest_domain.specs.declared.plan.Cause.{Cause}
use Rattle.access_region.specs.Faults.{NoRegion}
use Rattle.access_region.specs.Finding.{loop_in}
use Rattle.text_places.specs.Blocks.{Block}
use Rattle.placement_texts.specs.Spots.{Spot, IsLoop}
use Rattle.placement_stage.specs.Places.{spot_of}
use Rattle.placement_regions.specs.Sites.{from_spot, way_to}
use Rattle.plan_laws.specs.Sites.{path_of}
use Rattle.plan_laws.specs.Plan.{cause_of}

-- the path of a loop of the text
pub record IsLoopPath (n : Nest) (p : Path) : Type 0 where
  pub loop : IsLoop (spot_of p.steps) n
  pub path : path_of (spot_of p.steps) ≡ p.steps

-- the loop at a place of the text
pub record StandsAt (n : Nest) (s : Spot) (b : Block) : Type 0 where
  pub loop : IsLoop s n
  pub is : loop_in (way_to s n) (from_spot s n) ≡ Some b

abbrev pub StandsIn : Nest → Block → Type 0
StandsIn n b = (s : Spot) × StandsAt n s b

-- a region, or the cause for which there is none
abbrev pub by_cause : Result (List Dimension) NoRegion → Result (List Dimension) Cause
by_cause (Ok ds) = Ok ds
by_cause (Err e) = Err (cause_of e)
