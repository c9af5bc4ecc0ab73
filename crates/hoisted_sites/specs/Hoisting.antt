-- Sites of a plan as code has them.
use Rattle.std.specs.Prelude.{◌≡◌, ℕ, ◌<◌, List, [], ◌∷◌, ◌++◌, map, length, reverse, get_or, Option, Some, None, Result, Ok, Err}
use Rattle.affine_ast.specs.declared.image.Path.{Path}
use Rattle.affine_ast.specs.declared.module.Module.{Module}
use Rattle.affine_ast.specs.declared.name.Name.{Name}
use Rattle.affine_ast.specs.declared.types.MemrefType.{MemrefType}
use Rattle.affine_ast.specs.Nest.{Nest, nest}
use Rattle.nest_domain.specs.declared.plan.Cause.{Cause}
use Rattle.nest_domain.specs.Boxes.{Dimension}
use Rattle.text_places.specs.Finding.{seen}
use Rattle.placement_texts.specs.Spots.{Spot, IsLoop}
use Rattle.placement_stage.specs.Places.{spot_of}
use Rattle.placement_regions.specs.Sites.{region_there}
use Rattle.staged_plans.specs.Plans.{uses_there}
use Rattle.loop_paths.specs.Found.{found_of, found_at}
use Rattle.loop_paths.specs.declared.paths.LoopPath.{LoopPath}
use Rattle.plan_laws.specs.Plan as plan
use Rattle.plan_laws.specs.Sites.{loops_round}
use Rattle.plan_laws.specs.Plan.{hoisted, region_at, times, accesses_in}
use Rattle.hoisted_sites.specs.declared.hoisting.Site.{Site}
use Rattle.hoisted_sites.specs.declared.hoisting.Sought.{Sought}
use Rattle.hoisted_sites.specs.declared.standing.Asking.{Asking}
use Rattle.hoisted_sites.specs.Sites.{IsLoopPath, by_cause}

-- the module that is planned, and its text
abbrev pub module_of : Asking → Module
module_of a = a.verified.now.inner

abbrev pub text_of : Asking → Nest
text_of a = nest (module_of a).body

-- a site of a memref: a loop, with the accesses of the memref there and its region
pub record IsSite (a : Asking) (x : Sought) (site : Site) : Type 0 where
  pub path : IsLoopPath (text_of a) site.at
  pub uses : map seen site.uses.items ≡ uses_there (text_of a) x.memref.now (spot_of site.at.steps)
  pub region : region_there (module_of a).args (text_of a) x.memref.now (spot_of site.at.steps) x.ty.now.sizes a.options.dma ≡ Ok site.region

abbrev pub site_of : Site → plan.Site
site_of x = record { at = spot_of x.at.steps; region = x.region }

-- the site at a path, or the cause against a region there
abbrev pub IsSiteAt : Asking → Sought → Path → ℕ → Result Site Cause → Type 0
IsSiteAt a x at place (Ok site) = IsSite a x site × (site.at ≡ at) × (site.place ≡ place)
IsSiteAt a x at place (Err cause) = by_cause (region_there (module_of a).args (text_of a) x.memref.now (spot_of at.steps) x.ty.now.sizes a.options.dma) ≡ Err cause

-- hoisting from a site over the loop at a path and those behind it goes on from the site there, or ends
abbrev pub hoisted_from : Asking → Sought → List Spot → plan.Site → plan.Site
hoisted_from a x ss site = hoisted a.options (module_of a).args (text_of a) x.memref.now x.ty.now x.count ss site

abbrev pub IsFurther : Asking → Sought → plan.Site → Path → ℕ → Option Site → Type 0
IsFurther a x from at place (Some site) = IsSite a x site × (site.at ≡ at) × (site.place ≡ place) × ((ss : List Spot) → hoisted_from a x (spot_of at.steps ∷ ss) from ≡ hoisted_from a x ss (site_of site))
IsFurther a x from at place None = (ss : List Spot) → hoisted_from a x (spot_of at.steps ∷ ss) from ≡ from

-- a block: the path of a loop, with the loops round it
pub record IsBlock (n : Nest) (b : LoopPath) : Type 0 where
  pub loop : IsLoop (spot_of b.at.steps) n
  pub found : found_of b ≡ found_at n (spot_of b.at.steps)

-- the loops at which a placement for a block may stand, from the outside in
abbrev pub sites_of : Nest → Spot → List Spot
sites_of n s = reverse (loops_round s n) ++ s ∷ []

-- the site is one of them: so many loops stand round it
pub record IsRound (n : Nest) (s : Spot) (site : Site) : Type 0 where
  pub within : site.place < length (sites_of n s)
  pub spot : spot_of site.at.steps ≡ get_or (sites_of n s) site.place s

-- where a memref of a block is staged, if its region at the block is found: hoisted from there, past as many accesses as the block has
pub record IsHoisted (a : Asking) (m : Name) (ty : MemrefType) (s : Spot) (site : Site) : Type 0 where
  pub path : IsLoopPath (text_of a) site.at
  pub uses : map seen site.uses.items ≡ uses_there (text_of a) m (spot_of site.at.steps)
  pub found : region_there (module_of a).args (text_of a) m (spot_of site.at.steps) ty.sizes a.options.dma ≡ Ok site.region
  pub place : IsRound (text_of a) s site
  pub region : List Dimension
  pub is : region_at a.options (module_of a).args (text_of a) m ty s ≡ Ok region
  pub hoisted : site_of site ≡ hoisted a.options (module_of a).args (text_of a) m ty (times m (accesses_in a.options (module_of a).args (text_of a) s)) (loops_round s (text_of a)) (record { at = s; region = region })

abbrev pub IsSiteFor : Asking → Name → MemrefType → Spot → Result Site Cause → Type 0
IsSiteFor a m ty s (Ok site) = IsHoisted a m ty s site
IsSiteFor a m ty s (Err cause) = by_cause (region_at a.options (module_of a).args (text_of a) m ty s) ≡ Err cause
