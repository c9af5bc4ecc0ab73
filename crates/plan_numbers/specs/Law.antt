-- The plans of the two modules, by computing.
use Rattle.std.specs.Prelude.{◌≡◌, ℕ, pos, true, false, List, [], ◌∷◌, None}
use Rattle.affine_ast.specs.declared.module.Module.{Module}
use Rattle.affine_ast.specs.PlainLimits.{plain_fault}
use Rattle.affine_ast.specs.Validity.{IsValid}
use Rattle.nest_domain.specs.declared.plan.Cause.{Cause}
use Rattle.nest_domain.specs.declared.plan.Cause.TheVariants as cause
use Rattle.nest_domain.specs.declared.plan.Decision.{Decision}
use Rattle.nest_domain.specs.declared.plan.Doubling.TheVariants as doubling
use Rattle.nest_domain.specs.declared.plan.Options.{Options}
use Rattle.nest_domain.specs.declared.plan.Outcome.TheVariants as outcome
use Rattle.nest_domain.specs.Boxes.{Dimension}
use Rattle.plan_laws.specs.Plan.{plan}
use Rattle.plan_theorem.specs.Law.{IsWritten}
use Rattle.stage_laws.specs.Law.{IsStageOf, RunsAsOriginal}
use Rattle.plan_numbers.specs.Modules.{no_turn, tiles, raised_copy}

abbrev pub with_loops : Options
with_loops = record { depth = 0; dma = false; double = false; capacity = 1048576; buffers = 2 }

abbrev pub with_transfers : ℕ → Options
with_transfers capacity = record { depth = 1; dma = true; double = false; capacity = capacity; buffers = 2 }

abbrev pub left : ℕ → ℕ → Cause → List Decision
left block line c = record { block = block; line = line; memref = 0; outcome = outcome.Left c } ∷ []

-- sixteen elements from the tile's first one on
abbrev pub tile : List Dimension
tile = record { coefs = pos 1 ∷ []; offset = pos 0; extent = pos 16; clamped = false } ∷ []

-- all of a memref of 8 elements
abbrev pub all_eight : List Dimension
all_eight = record { coefs = []; offset = pos 0; extent = pos 8; clamped = false } ∷ []

-- the first is read in, the second read in and written out
abbrev pub both_staged : List Decision
both_staged =
    record { block = 0; line = 2; memref = 0; outcome = outcome.Staged (record { steps = (0, false) ∷ [] }) all_eight true false doubling.NotAsked }
    ∷ record { block = 0; line = 2; memref = 1; outcome = outcome.Staged (record { steps = (0, false) ∷ [] }) all_eight true true doubling.NotAsked } ∷ []

abbrev pub staged_tile : List Decision
staged_tile = record {
  block = 0;
  line = 3;
  memref = 0;
  outcome = outcome.Staged (record { steps = (0, false) ∷ (0, false) ∷ [] }) tile true true doubling.NotAsked;
} ∷ []

pub record PlansAre : Type 0 where
  -- a memref that no turn comes to has no region
  pub no_region : plan with_loops no_turn ≡ left 0 2 cause.Region
  -- a tile is staged where the capacity holds its 64 bytes, and left where it doesn't. Round the outer loop the region is larger, so it
  -- isn't hoisted
  pub staged : plan (with_transfers 64) tiles ≡ staged_tile
  pub capacity : plan (with_transfers 63) tiles ≡ left 0 3 cause.Capacity
  -- by copy loops both memrefs are staged whole
  pub two : plan with_loops raised_copy ≡ both_staged

-- so the law of staging speaks of something: the tiles meet what it asks, there is the module that staging makes of them, and it runs
-- as they do
pub record TilesAreStaged : Type 0 where
  pub valid : IsValid tiles
  pub may_be_staged : plain_fault tiles ≡ None
  pub written : IsWritten tiles
  pub staged : Module
  pub is : IsStageOf (with_transfers 64) tiles staged
  pub runs : RunsAsOriginal (with_transfers 64) tiles staged
