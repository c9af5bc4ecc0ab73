-- What the code answers, against an outcome of the prompt meaning.
use Rattle.std.specs.Prelude.{◌≡◌, ℕ, ℤ, List, Result, Ok, Err}
use Rattle.affine_ast.specs.declared.image.Image.{Image}
use Rattle.affine_ast.specs.declared.module.Module.{Module}
use Rattle.bus_model.specs.declared.step.FaultKind.{FaultKind}
use Rattle.bus_model.specs.declared.step.Verdict.{Verdict}
use Rattle.direct_meaning.specs.Direct.{Outcome, End, Fault, verdict_of, state_of}
use Rattle.prompt_semantics.specs.Device as model
use Rattle.prompt_semantics.specs.Prompt.{prompt, prompt_slow, prompt_numbers}
use Rattle.run_laws.specs.StaysFitting.{with_slow}
use Rattle.prompt_laws.specs.Rooms.{Room}
use Rattle.prompt_meaning.specs.declared.prompt.Prompt.{Prompt}
use Rattle.prompt_meaning.specs.Held.{Agrees}

-- an action is done, or is that fault, and the state is then this one
abbrev pub Takes : Result (Unit {0}) FaultKind → Outcome model.Device → model.Device → Type 0
Takes (Ok done) outcome y = outcome ≡ End y
Takes (Err kind) outcome y = outcome ≡ Fault kind y

-- the same, but for halves that aren't there
abbrev pub TakesWithin : List Room → Result (Unit {0}) FaultKind → Outcome model.Device → model.Device → Type 0
TakesWithin rooms (Ok done) (End y) z = Agrees rooms y z
TakesWithin rooms (Ok done) (Fault kind y) z = ⊥
TakesWithin rooms (Err kind) (End y) z = ⊥
TakesWithin rooms (Err kind) (Fault other y) z = (other ≡ kind) × Agrees rooms y z

-- a run ends with this verdict and this state
pub record EndsWithin (rooms : List Room) (verdict : Verdict) (outcome : Outcome model.Device) (z : model.Device) : Type 0 where
  pub verdict_is : verdict ≡ verdict_of outcome
  pub state_is : Agrees rooms (state_of outcome) z

-- the verdict and the three numbers of the prompt meaning, and its slow memory: after the run, or at its fault
pub record RunsPrompt (module_ : Module) (old : Image) (filler : ℤ) (capacity : ℕ) (run : Prompt) (new : Image) : Type 0 where
  pub verdict_is : run.verdict ≡ verdict_of (prompt module_ old filler capacity)
  pub actions_are : run.actions ≡ (prompt_numbers (prompt module_ old filler capacity)).actions
  pub engine_steps_are : run.engine_steps ≡ (prompt_numbers (prompt module_ old filler capacity)).engine_steps
  pub peak_is : run.peak ≡ (prompt_numbers (prompt module_ old filler capacity)).peak
  pub memory_is : new ≡ with_slow old (prompt_slow (prompt module_ old filler capacity))
