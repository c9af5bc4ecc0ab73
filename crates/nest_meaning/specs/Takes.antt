-- What the code answers, against an outcome of the direct meaning.
use Rattle.std.specs.Prelude.{◌≡◌, Result, Ok, Err}
use Rattle.affine_ast.specs.declared.image.Image.{Image}
use Rattle.affine_ast.specs.declared.module.Module.{Module}
use Rattle.bus_model.specs.declared.step.FaultKind.{FaultKind}
use Rattle.bus_model.specs.declared.step.Verdict.{Verdict}
use Rattle.direct_meaning.specs.Direct.{Outcome, End, Fault, State, plain, verdict_of, state_of}
use Rattle.run_laws.specs.StaysFitting.{with_slow}

-- an action is done, or is that fault, and the state is then this one
abbrev pub Takes : Result (Unit {0}) FaultKind → Outcome State → State → Type 0
Takes (Ok done) outcome s = outcome ≡ End s
Takes (Err kind) outcome s = outcome ≡ Fault kind s

-- a run ends with this verdict and this state
pub record Ends (verdict : Verdict) (outcome : Outcome State) (s : State) : Type 0 where
  pub verdict_is : verdict ≡ verdict_of outcome
  pub state_is : s ≡ state_of outcome

-- the verdict and the memory of the direct meaning: after the run, or at its fault
pub record RunsPlain (module_ : Module) (old : Image) (verdict : Verdict) (new : Image) : Type 0 where
  pub verdict_is : verdict ≡ verdict_of (plain module_ old)
  pub memory_is : new ≡ with_slow old (state_of (plain module_ old)).slow
