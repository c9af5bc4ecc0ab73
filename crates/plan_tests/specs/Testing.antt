-- The tests of a placement in the text of a module with the placements before it.
use Rattle.std.specs.Prelude.{◌≡◌, ℕ, ◌≤◌, List, [], ◌∷◌, ◌++◌, length, Option, Some, None}
use Rattle.affine_ast.specs.declared.module.Module.{Module}
use Rattle.affine_ast.specs.Nest.{nest}
use Rattle.affine_ast.specs.PlainLimits.{plain_fault}
use Rattle.loop_paths.specs.declared.paths.LoopPath.{LoopPath}
use Rattle.loop_paths.specs.Found.{found_of, found_at}
use Rattle.nest_domain.specs.declared.plan.Cause.{Cause}
use Rattle.nest_domain.specs.declared.plan.Options.{Options}
use Rattle.nest_domain.specs.Boxes.{Dimension}
use Rattle.nest_domain.specs.Ways.{Use}
use Rattle.placement_code.specs.declared.placement.Placement.{Placement}
use Rattle.placement_code.specs.Placed.{placement_of}
use Rattle.placement_texts.specs.Fold.{Step, staged_all}
use Rattle.placement_texts.specs.Spots.{Spot}
use Rattle.plan_laws.specs.Sites.{loops_at, lined}
use Rattle.plan_laws.specs.Plan.{Settled, Unstaged, Placed, text_with, fitted}
use Rattle.staged_peaks.specs.Bytes.{step_bytes}
use Rattle.staged_peaks.specs.Living.{Lives, IsSite, text_more}
use Rattle.text_limits.specs.declared.sums.Round.{Round}
use Rattle.text_limits.specs.Adding.{Describes}
use Rattle.text_limits.specs.Capped.{capped_sums}
use Rattle.text_limits.specs.Sums.{sums_in}
use Rattle.plan_tests.specs.declared.tests.Tests.{Tests}

-- what is kept of a module with these placements, when these are its blocks so far
pub record TestsFor (o : Options) (m : Module) (blocks : List Spot) (steps : List Step) (t : Tests) : Type 0 where
  pub capacity : t.capacity ≡ o.capacity
  pub number : t.number ≡ length steps
  pub sums : t.sums ≡ capped_sums (sums_in 0 0 (text_with o m.args (nest m.body) steps))
  pub live : Lives (nest m.body) blocks steps t.live

-- there are no more placements than statements, and no more of these than a module may have
pub record AreFew (t : Tests) : Type 0 where
  pub placements : t.number ≤ t.sums.statements
  pub most : t.number ≤ 65536

-- it goes on to the next block, which is a loop at the options' depth
abbrev pub Goes : Tests → LoopPath → Tests → Type 0
Goes old next new = (o : Options) (m : Module) (blocks : List Spot) (s : Spot) (rest : List Spot) (steps : List Step)
    → loops_at o.depth (nest m.body) ≡ blocks ++ s ∷ rest → found_of next ≡ found_at (nest m.body) s → TestsFor o m blocks steps old → TestsFor o m (blocks ++ s ∷ []) steps new

-- ---- a placement
-- for the last block, as code has it: at the loop with so many loops round it, of those round the block, with so many loops and
-- conditions round it in the text, where the memref has these uses
pub record IsTried (m : Module) (steps : List Step) (s : Spot) (placed : Placement) (place : ℕ) (round : Round) (us : List Use) (x : Step) : Type 0 where
  pub placement : x.placement ≡ placement_of placed
  pub site : IsSite (nest m.body) s place (step_bytes x) x
  pub loop : Describes x.placement round.loops round.ifs us x.spot (staged_all steps (lined (nest m.body)))

-- it is placed, or left for this cause
abbrev pub settled_by : Step → List Dimension → Option Cause → Settled
settled_by x ds None = Placed x ds
settled_by x ds (Some cause) = Unstaged cause

abbrev pub steps_behind : List Step → Step → Option Cause → List Step
steps_behind steps x None = steps ++ x ∷ []
steps_behind steps x (Some cause) = steps

-- as the plan has it, whatever its region; and what is kept is that of the placements with it, or without it
pub record IsSettled (o : Options) (m : Module) (blocks : List Spot) (steps : List Step) (x : Step) (cause : Option Cause) (new : Tests) : Type 0 where
  pub is : (ds : List Dimension) → fitted o m.args (nest m.body) x ds (text_more m steps x) ≡ settled_by x ds cause
  pub kept : TestsFor o m blocks (steps_behind steps x cause) new

-- of each module that meets V13
abbrev pub Tries : Tests → Placement → ℕ → Round → List Use → Option Cause → Tests → Type 0
Tries old placed place round us cause new = (o : Options) (m : Module) → plain_fault m ≡ None → (blocks : List Spot) (s : Spot) (steps : List Step) (x : Step)
    → TestsFor o m (blocks ++ s ∷ []) steps old → IsTried m steps s placed place round us x → IsSettled o m (blocks ++ s ∷ []) steps x cause new
