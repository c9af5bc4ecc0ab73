-- The law of staging, of modules: its premises are numbers and names of the plan, and that no text on the way breaks V9, V11 or V12.
use Rattle.std.specs.Prelude.{◌≡◌, ℕ, ◌≤◌, ℤ, Bool, List, None}
use Rattle.affine_ast.specs.declared.image.Image.{Image}
use Rattle.affine_ast.specs.declared.module.Module.{Module}
use Rattle.affine_ast.specs.declared.name.Name.{Name}
use Rattle.affine_ast.specs.PlainLimits.{plain_fault}
use Rattle.affine_ast.specs.Validity.{IsValid}
use Rattle.direct_meaning.specs.Direct.{plain}
use Rattle.direct_meaning.specs.Memory.{Fits}
use Rattle.prompt_semantics.specs.Prompt.{prompt}
use Rattle.box_run_laws.specs.Law.{Agrees}
use Rattle.placement_texts.specs.Fold.{Step}
use Rattle.peak_laws.specs.Peak.{peak}
use Rattle.plan_validity.specs.Law.{IsPlanOf, IsStagedBy}

-- a valid module that meets V13, a plan of it, and the module with all the plan's placements: from every memory that fits, at every
-- capacity from the second one's peak on, its prompt meaning has the verdict of the first one's direct meaning, and at the end its
-- slow memory
abbrev pub StagedRuns : Type 0
StagedRuns = (m q : Module) → IsValid m → plain_fault m ≡ None → (memory : Image) → Fits m memory → (made_by : Name → ℕ) (dma : Bool) (xs : List Step)
    → IsPlanOf m memory.symbols made_by dma xs → IsStagedBy xs m q → (filler : ℤ) (capacity : ℕ) → peak q ≤ capacity
    → Agrees (plain m memory) (prompt q memory filler capacity)
