-- The test on intervals that a region makes of its templates is the rule on intervals of the module with this placement alone.
use Rattle.std.specs.Prelude.{◌≡◌, ◌⊎◌, ℕ, Bool, true, List, Result, Ok, Err}
use Rattle.affine_ast.specs.declared.module.Arg.{Arg}
use Rattle.affine_ast.specs.declared.module.ArgKind.TheVariants as kind
use Rattle.affine_ast.specs.declared.module.Module.{Module}
use Rattle.affine_ast.specs.declared.name.Name.{Name}
use Rattle.affine_ast.specs.declared.types.MemrefType.{MemrefType}
use Rattle.affine_ast.specs.Nest.{Nest, nest}
use Rattle.affine_ast.specs.Validity.{IsValid}
use Rattle.nest_domain.specs.Boxes as region
use Rattle.nest_domain.specs.Ways.{Header, Use, loop_count}
use Rattle.access_region.specs.Faults.{NoRegion, ◌>>=◌}
use Rattle.access_region.specs.Places.{kept_where}
use Rattle.access_region.specs.Regions.{reaching, outside_at, dimensions}
use Rattle.access_region.specs.Widening.{for_transfers}
use Rattle.placement_texts.specs.Own.{OwnNest, MadeNames}
use Rattle.placement_texts.specs.Spots.{Spot, IsLoop, staged_at}
use Rattle.placement_texts.specs.Template.{Placement}
use Rattle.placement_texts.specs.Valid.{HasArgument, OwnArguments}
use Rattle.placement_regions.specs.Sites.{from_spot, way_to, loop_uses, region_there, outer_names, dims_over}
use Rattle.staged_plans.specs.Plans.{how_over}
use Rattle.plan_laws.specs.Limits.{keeps_intervals}

-- the box of a region, before the test: for each dimension where it begins and how far it reaches, widened where it is for transfers
unfoldable pub box_of : List Arg → List Header → List Use → List ℕ → Bool → Result (List region.Dimension) NoRegion
box_of args way us sizes dma = do
  xs ← reaching args us
  outside ← outside_at args way
  ds ← dimensions outside (loop_count way) xs 0 sizes
  Ok (for_transfers dma sizes ds)

-- of a memref at the loop at a place of a text
abbrev pub box_there : List Arg → Nest → Name → Spot → List ℕ → Bool → Result (List region.Dimension) NoRegion
box_there args n m s sizes dma = box_of args (way_to s n) (loop_uses m (way_to s n) (from_spot s n)) sizes dma

-- a placement of this box at the loop there, in a text that has no other: of a memref argument, read in or written out or both, by
-- transfers or by copy loops, with names that are none of the text's
pub record IsAlone (own : Name → Bool) (args : List Arg) (n : Nest) (p : Placement) (ty : MemrefType) (s : Spot) (dma : Bool) (ds : List region.Dimension) : Type 0 where
  pub loop : IsLoop s n
  pub memref : HasArgument args p.memref (kind.Memref ty)
  pub element : p.element ≡ ty.element
  pub is : box_there args n p.memref s ty.sizes dma ≡ Ok ds
  pub dims : p.dims ≡ dims_over (outer_names args (way_to s n)) ds ty.sizes
  pub moves : (p.reads ≡ true) ⊎ (p.writes ≡ true)
  pub how : p.how ≡ how_over dma p.dims
  pub own_text : OwnNest own n
  pub own_arguments : OwnArguments own args
  pub names : MadeNames own p.name

-- in a valid module the box is the region where the text with the template round the loop keeps to the rule on intervals, and
-- there is none, for a coefficient, where it doesn't
abbrev pub TestIsRule : Type 0
TestIsRule = (m : Module) → IsValid m → (own : Name → Bool) (p : Placement) (ty : MemrefType) (s : Spot) (dma : Bool) (ds : List region.Dimension)
    → IsAlone own m.args (nest m.body) p ty s dma ds
    → region_there m.args (nest m.body) p.memref s ty.sizes dma ≡ kept_where (keeps_intervals m.args (staged_at p s (nest m.body))) ds

-- where there is no box there is no region, for the same cause
abbrev pub RefusedBefore : Type 0
RefusedBefore = (args : List Arg) (n : Nest) (m : Name) (s : Spot) (sizes : List ℕ) (dma : Bool) (e : NoRegion)
    → box_there args n m s sizes dma ≡ Err e → region_there args n m s sizes dma ≡ Err e
