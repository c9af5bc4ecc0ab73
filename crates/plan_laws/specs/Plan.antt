-- The plan, without doubling: for each block the memrefs that are accessed there, each staged at a loop, or left for the first cause that
-- holds. Regions are those of the module that is planned; the intervals, the peak and the limits are those of its text with the
-- placements so far.
use Rattle.std.specs.Prelude.{ℕ, suc, ◌+◌, Bool, true, false, not, ◌&&◌, nat_lt, nat_eq, if◌then◌else◌, List, [], ◌∷◌, ◌++◌, fold, map, length, Option, Some, None, Result, Ok, Err}
use Rattle.std.specs.Ordering.{int_eq}
use Rattle.affine_ast.specs.declared.module.Arg.{Arg}
use Rattle.affine_ast.specs.declared.module.ArgKind.{ArgKind}
use Rattle.affine_ast.specs.declared.module.ArgKind.TheVariants as kind
use Rattle.affine_ast.specs.declared.module.Module.{Module}
use Rattle.affine_ast.specs.declared.name.Name.{Name}
use Rattle.affine_ast.specs.declared.types.MemrefType.{MemrefType}
use Rattle.affine_ast.specs.Names.{same_name}
use Rattle.affine_ast.specs.Nest.{Plain, Nest, Nothing, Loop, Branch, Does, Load, Store, RawLoad, RawStore, nest}
use Rattle.affine_ast.specs.Sizes.{product}
use Rattle.nest_domain.specs.declared.plan.Cause.{Cause}
use Rattle.nest_domain.specs.declared.plan.Cause.TheVariants as cause
use Rattle.nest_domain.specs.declared.plan.Decision.{Decision}
use Rattle.nest_domain.specs.declared.plan.Doubling.TheVariants as doubling
use Rattle.nest_domain.specs.declared.plan.Options.{Options}
use Rattle.nest_domain.specs.declared.plan.Outcome.{Outcome}
use Rattle.nest_domain.specs.declared.plan.Outcome.TheVariants as outcome
use Rattle.nest_domain.specs.Boxes as region
use Rattle.nest_domain.specs.Ways.{has_name}
use Rattle.access_region.specs.Faults.{NoRegion, unplaced, coefficient, many_rows}
use Rattle.placement_texts.specs.Fold.{Step, staged_all}
use Rattle.placement_texts.specs.Template.{Placement}
use Rattle.placement_texts.specs.Spots.{Spot, stage_one}
use Rattle.placement_regions.specs.Sites.{from_spot, way_to, alone, outer_names, dims_over, region_there}
use Rattle.placement_covers.specs.Law.{is_covered}
use Rattle.staged_plans.specs.Plans.{how_over, has_store, uses_there}
use Rattle.made_names.specs.Made.{made_name}
use Rattle.peak_laws.specs.Peak.{peak_of}
use Rattle.plan_laws.specs.Limits.{keeps_limits, keeps_intervals}
use Rattle.plan_laws.specs.Sites.{path_of, loops_at, loops_round, line_of, lined}

-- ---- accesses
-- the memref that a statement accesses
abbrev pub accessed : Plain → Option Name
accessed (Load r m at ty) = Some m
accessed (Store x m at ty) = Some m
accessed (RawLoad r m at ty) = Some m
accessed (RawStore x m at ty) = Some m
accessed q = None

abbrev pub with_access : Option Name → List Name → List Name
with_access (Some m) ms = m ∷ ms
with_access None ms = ms

-- the memrefs of the accesses of a text, in its order
abbrev pub accesses : Nest → List Name
accesses Nothing = []
accesses (Loop line v l u s body rest) = accesses body ++ accesses rest
accesses (Branch line set names first has other rest) = accesses first ++ (accesses other ++ accesses rest)
accesses (Does line q rest) = with_access (accessed q) (accesses rest)

-- the memrefs by first access, but for those that were seen before
abbrev pub firsts : List Name → List Name → List Name
firsts seen [] = []
firsts seen (m ∷ ms) = if has_name m seen then firsts seen ms else m ∷ firsts (m ∷ seen) ms

-- how often a memref is accessed
abbrev pub times : Name → List Name → ℕ
times m [] = 0
times m (x ∷ xs) = if same_name m x then suc (times m xs) else times m xs

-- ---- the memref
-- its number among the arguments
abbrev pub argument_number : List Arg → Name → ℕ
argument_number [] m = 0
argument_number (arg ∷ args) m = if same_name arg.name m then 0 else suc (argument_number args m)

-- its type, where it is an argument, as is each memref that a module which is to be staged accesses
abbrev pub type_of_kind : ArgKind → Option MemrefType
type_of_kind (kind.Memref ty) = Some ty
type_of_kind (kind.Index r) = None

abbrev pub type_of : List Arg → Name → Option MemrefType
type_of [] m = None
type_of (arg ∷ args) m = if same_name arg.name m then type_of_kind arg.kind else type_of args m

-- how many memref arguments stand before it, and how many elements those have
abbrev pub memrefs_in : ArgKind → ℕ
memrefs_in (kind.Memref ty) = 1
memrefs_in (kind.Index r) = 0

abbrev pub elements_in : ArgKind → ℕ
elements_in (kind.Memref ty) = product ty.sizes
elements_in (kind.Index r) = 0

abbrev pub memrefs_before : List Arg → Name → ℕ
memrefs_before [] m = 0
memrefs_before (arg ∷ args) m = if same_name arg.name m then 0 else memrefs_in arg.kind + memrefs_before args m

abbrev pub elements_before : List Arg → Name → ℕ
elements_before [] m = 0
elements_before (arg ∷ args) m = if same_name arg.name m then 0 else elements_in arg.kind + elements_before args m

-- ---- a memref at a loop
abbrev pub cause_of : NoRegion → Cause
cause_of unplaced = cause.Region
cause_of coefficient = cause.Coefficient
cause_of many_rows = cause.Rows

abbrev pub same_extents : List region.Dimension → List region.Dimension → Bool
same_extents [] [] = true
same_extents [] (e ∷ es) = false
same_extents (d ∷ ds) [] = false
same_extents (d ∷ ds) (e ∷ es) = int_eq d.extent e.extent && same_extents ds es

-- a loop, and the region of a memref there
pub record Site : Type 0 where
  pub at : Spot
  pub region : List region.Dimension

-- a memref that is accessed in a block: the block's number among the blocks, and its place
pub record Asked : Type 0 where
  pub block : ℕ
  pub at : Spot
  pub memref : Name

-- the placements, in their order, and the decisions so far
pub record Planned : Type 0 where
  pub steps : List Step
  pub decisions : List Decision

-- what a memref in a block becomes: a placement of this region, or what it was, for a cause
pub data Settled : Type 0 where
  Unstaged : Cause → Settled
  Placed : Step → List region.Dimension → Settled

-- ---- the plan of a module with these arguments and this text
module _ (o : Options) (args : List Arg) (n : Nest) where
  -- the accesses in the loop there
  abbrev pub accesses_in : Spot → List Name
  accesses_in s = accesses (alone (from_spot s n))

  abbrev pub region_at : Name → MemrefType → Spot → Result (List region.Dimension) NoRegion
  region_at m ty s = region_there args n m s ty.sizes o.dma

  -- outward, while the next loop has no more accesses of the memref than the block, and a region there of the same extents
  abbrev pub hoisted_by : (Site → Site) → Site → Spot → Result (List region.Dimension) NoRegion → Site
  hoisted_by further x s (Ok ds) = if same_extents x.region ds then further (record { at = s; region = ds }) else x
  hoisted_by further x s (Err e) = x

  abbrev pub hoisted : Name → MemrefType → ℕ → List Spot → Site → Site
  hoisted m ty count [] x = x
  hoisted m ty count (s ∷ ss) x =
      if nat_eq (times m (accesses_in s)) count then hoisted_by (hoisted m ty count ss) x s (region_at m ty s) else x

  -- read in, unless it is covered and transfers copy it; written out, where it is stored to in the loop
  abbrev pub placement_at : ℕ → Name → MemrefType → Site → Placement
  placement_at number m ty x = record {
    memref = m;
    element = ty.element;
    dims = dims_over (outer_names args (way_to x.at n)) x.region ty.sizes;
    reads = not (o.dma && is_covered args n m x.at x.region);
    writes = has_store (uses_there n m x.at);
    how = how_over o.dma (dims_over (outer_names args (way_to x.at n)) x.region ty.sizes);
    name = made_name number;
  }

  -- placements are numbered in their order
  abbrev pub step_at : ℕ → Name → MemrefType → Site → Step
  step_at number m ty x = record {
    placement = placement_at number m ty x;
    spot = x.at;
    order = memrefs_before args m;
    first = elements_before args m;
  }

  -- the text with these placements, one round the other where they are at one loop
  abbrev pub text_with : List Step → Nest
  text_with steps = staged_all steps (lined n)

  -- the first cause against a placement, of a text that has it: the rule on intervals, the capacity, and then the limits
  abbrev pub fitted : Step → List region.Dimension → Nest → Settled
  fitted x ds text =
      if nat_lt o.capacity (peak_of text 0) then Unstaged cause.Capacity
      else (if keeps_limits args text then Placed x ds else Unstaged cause.Size)

  abbrev pub tested : Step → List region.Dimension → Nest → Settled
  tested x ds text = if keeps_intervals args text then fitted x ds text else Unstaged cause.Coefficient

  abbrev pub tested_in : Step → List region.Dimension → Nest → Settled
  tested_in x ds text = tested x ds (stage_one x.placement x.spot text)

  abbrev pub settled_at : List Step → Name → MemrefType → Site → Settled
  settled_at steps m ty x = tested_in (step_at (length steps) m ty x) x.region (text_with steps)

  -- from the region at the block, outward
  abbrev pub settled_from : List Step → Name → MemrefType → Spot → Result (List region.Dimension) NoRegion → Settled
  settled_from steps m ty s (Err e) = Unstaged (cause_of e)
  settled_from steps m ty s (Ok ds) = settled_at steps m ty
      (hoisted m ty (times m (accesses_in s)) (loops_round s n) (record { at = s; region = ds }))

  abbrev pub settled : List Step → Name → Spot → Option MemrefType → Settled
  settled steps m s (Some ty) = settled_from steps m ty s (region_at m ty s)
  settled steps m s None = Unstaged cause.Region

  abbrev pub outcome_of : Settled → Outcome
  outcome_of (Unstaged c) = outcome.Left c
  outcome_of (Placed x ds) = outcome.Staged (record { steps = path_of x.spot }) ds x.placement.reads x.placement.writes doubling.NotAsked

  abbrev pub decision : Asked → Settled → Decision
  decision a y = record { block = a.block; line = line_of (from_spot a.at n); memref = argument_number args a.memref; outcome = outcome_of y }

  abbrev pub steps_with : List Step → Settled → List Step
  steps_with steps (Unstaged c) = steps
  steps_with steps (Placed x ds) = steps ++ x ∷ []

  abbrev pub with_settled : Asked → Planned → Settled → Planned
  with_settled a so y = record { steps = steps_with so.steps y; decisions = so.decisions ++ decision a y ∷ [] }

  abbrev pub decided : Planned → Asked → Planned
  decided so a = with_settled a so (settled so.steps a.memref a.at (type_of args a.memref))

  -- the memrefs of a block by first access, and those of all blocks
  abbrev pub asked_in : ℕ → Spot → List Name → List Asked
  asked_in block s ms = map (λ m. record { block = block; at = s; memref = m }) ms

  abbrev pub asked_from : ℕ → List Spot → List Asked
  asked_from block [] = []
  asked_from block (s ∷ ss) = asked_in block s (firsts [] (accesses_in s)) ++ asked_from (suc block) ss

  -- blocks are the loops with exactly `depth` loops round them
  abbrev pub asked : List Asked
  asked = asked_from 0 (loops_at o.depth n)

  unfoldable pub planned : Planned
  planned = fold decided (record { steps = []; decisions = [] }) asked

-- of a module: its decisions, its placements, and the text that has them
abbrev pub plan : Options → Module → List Decision
plan o m = (planned o m.args (nest m.body)).decisions

abbrev pub plan_steps : Options → Module → List Step
plan_steps o m = (planned o m.args (nest m.body)).steps

abbrev pub planned_text : Options → Module → Nest
planned_text o m = staged_all (plan_steps o m) (lined (nest m.body))
