-- The laws of the runs of a valid module by its prompt meaning.
use Rattle.std.specs.Prelude.{◌≡◌, ℕ, ◌^◌, ◌≤◌, ◌<◌, ℤ, None}
use Rattle.affine_ast.specs.declared.image.Image.{Image}
use Rattle.affine_ast.specs.declared.module.Module.{Module}
use Rattle.affine_ast.specs.PlainLimits.{plain_fault}
use Rattle.affine_ast.specs.Validity.{IsValid}
use Rattle.direct_meaning.specs.Direct.{plain, verdict_of, state_of}
use Rattle.direct_meaning.specs.Memory.{Fits, module_actions}
use Rattle.direct_meaning.specs.Work.{work}
use Rattle.prompt_semantics.specs.Prompt.{prompt_step, first_device, prompt, prompt_slow}
use Rattle.run_laws.specs.StaysFitting.{FitsWith}
use Rattle.prompt_laws.specs.Along.{Along}
use Rattle.prompt_laws.specs.Costs.{costs}
use Rattle.prompt_laws.specs.Reaches.{CanAct}
use Rattle.prompt_laws.specs.Rooms.{module_rooms}

pub record RunsPromptly (m : Module) (memory : Image) (filler : ℤ) (capacity : ℕ) : Type 0 where
  -- an executor can take each action that the run comes to
  pub runs : Along (prompt_step filler capacity) (CanAct (module_rooms m) capacity) (module_actions m memory.symbols) (first_device memory)
  -- behind it, at its end or at its fault, the memory fits the module again
  pub fits : FitsWith m memory (prompt_slow (prompt m memory filler capacity))
  -- its actions and the steps of engines are no more than the work
  pub costs_fit : work m < 2 ^ 127 → costs (module_actions m memory.symbols) ≤ work m

-- so every valid module runs, from every memory that fits it, for every filler and capacity
abbrev pub ValidRunsPromptly : Type 0
ValidRunsPromptly = (m : Module) → IsValid m → (memory : Image) → Fits m memory → (filler : ℤ) (capacity : ℕ) → RunsPromptly m memory filler capacity

-- the verdict and the slow list of the direct meaning, at its end or at its fault
pub record SameAsDirect (m : Module) (memory : Image) (filler : ℤ) (capacity : ℕ) : Type 0 where
  pub verdict_is : verdict_of (prompt m memory filler capacity) ≡ verdict_of (plain m memory)
  pub slow_is : prompt_slow (prompt m memory filler capacity) ≡ (state_of (plain m memory)).slow

-- so does a valid module without allocations, deallocs, starts and waits come out
abbrev pub PromptIsDirect : Type 0
PromptIsDirect = (m : Module) → IsValid m → plain_fault m ≡ None → (memory : Image) → Fits m memory → (filler : ℤ) (capacity : ℕ) → SameAsDirect m memory filler capacity
