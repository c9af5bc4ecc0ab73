-- The loops at a depth, with the way to each and with their memrefs: as code finds them, and as the plan has them.
use Rattle.std.specs.Prelude.{◌≡◌, ℕ, List, [], map, None}
use Rattle.affine_ast.specs.declared.module.Module.{Module}
use Rattle.affine_ast.specs.Nest.{Nest, Nothing, Loop, nest}
use Rattle.affine_ast.specs.PlainLimits.{plain_fault}
use Rattle.nest_domain.specs.Ways.{Header}
use Rattle.placement_texts.specs.Spots.{Spot}
use Rattle.placement_regions.specs.Sites.{from_spot, alone, way_to}
use Rattle.text_places.specs.Blocks.{Block, blocks, accessed}
use Rattle.plan_laws.specs.Sites.{loops_at}
use Rattle.plan_laws.specs.Plan.{accesses, firsts}

-- a loop without what follows it, with what stands round it and before it
pub record Standing : Type 0 where
  pub way : List Header
  pub loop : Nest

abbrev pub of_block : Block → Standing
of_block b = record { way = b.way; loop = Loop b.line b.var b.lower b.upper b.step b.body Nothing }

abbrev pub of_place : Nest → Spot → Standing
of_place n s = record { way = way_to s n; loop = alone (from_spot s n) }

-- the blocks of a text are the loops at the places of the plan
abbrev pub BlocksAreLoops : Type 0
BlocksAreLoops = (depth : ℕ) (n : Nest) → map of_block (blocks depth n []) ≡ map (of_place n) (loops_at depth n)

-- in a module without deallocs and transfers the memrefs of the blocks are those of the accesses there, by first access
abbrev pub MemrefsAreFirsts : Type 0
MemrefsAreFirsts = (m : Module) → plain_fault m ≡ None → (depth : ℕ)
    → map (λ b. accessed b.body []) (blocks depth (nest m.body) []) ≡ map (λ s. firsts [] (accesses (alone (from_spot s (nest m.body))))) (loops_at depth (nest m.body))
