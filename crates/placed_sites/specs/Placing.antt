-- The placement of a memref at its site, as code has it.
use Rattle.std.specs.Prelude.{◌≡◌, ℕ, ◌<◌, ◌^◌, map, Ok}
use Rattle.affine_ast.specs.declared.name.Name.{Name}
use Rattle.affine_ast.specs.declared.types.MemrefType.{MemrefType}
use Rattle.affine_ast.specs.Sizes.{product}
use Rattle.nest_domain.specs.Ways.{loop_count}
use Rattle.placement_code.specs.Placed.{placement_of, MayBeWritten}
use Rattle.placement_regions.specs.Sites.{way_to, region_there}
use Rattle.placement_stage.specs.Places.{spot_of}
use Rattle.placement_texts.specs.Template.{dim_extents}
use Rattle.staged_plans.specs.Plans.{uses_there}
use Rattle.text_places.specs.Finding.{seen}
use Rattle.plan_laws.specs.Plan.{placement_at}
use Rattle.text_limits.specs.Adding.{condition_count}
use Rattle.hoisted_sites.specs.declared.hoisting.Site.{Site}
use Rattle.hoisted_sites.specs.declared.standing.Asking.{Asking}
use Rattle.hoisted_sites.specs.Sites.{IsLoopPath}
use Rattle.hoisted_sites.specs.Hoisting.{module_of, text_of, site_of}
use Rattle.placed_sites.specs.declared.placing.Candidate.{Candidate}

-- a loop, with the accesses of a memref there and its region
pub record IsSiteOf (a : Asking) (m : Name) (ty : MemrefType) (x : Site) : Type 0 where
  pub path : IsLoopPath (text_of a) x.at
  pub uses : map seen x.uses.items ≡ uses_there (text_of a) m (spot_of x.at.steps)
  pub found : region_there (module_of a).args (text_of a) m (spot_of x.at.steps) ty.sizes a.options.dma ≡ Ok x.region

-- the placement of this number there, whose numbers may be written, and so many loops and conditions stand round it
pub record IsCandidate (a : Asking) (m : Name) (ty : MemrefType) (number : ℕ) (x : Site) (c : Candidate) : Type 0 where
  pub site : c.site ≡ x
  pub placed : placement_of c.placed ≡ placement_at a.options (module_of a).args (text_of a) number m ty (site_of x)
  pub written : MayBeWritten c.placed
  pub narrow : product (dim_extents c.placed.dims) < 2 ^ 32
  pub loops : c.round.loops ≡ loop_count (way_to (spot_of x.at.steps) (text_of a))
  pub ifs : c.round.ifs ≡ condition_count (way_to (spot_of x.at.steps) (text_of a))
