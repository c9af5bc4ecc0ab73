-- What is proved of two runs that go in step.
use Rattle.std.specs.Prelude.{ℕ, ℤ, List}
use Rattle.bus_model.specs.declared.transfer.Transfer.{Transfer}
use Rattle.direct_meaning.specs.Direct.{folded}
use Rattle.prompt_semantics.specs.Device.{Device}
use Rattle.prompt_semantics.specs.Prompt.{prompt_step}
use Rattle.step_runs.specs.Stage.{Stage}
use Rattle.step_runs.specs.Steps.{Step, first_list, second_list, behind, Goes}
use Rattle.step_runs.specs.Related.{Related, Ends}

-- two runs go together as long as each step is allowed at its stage
abbrev pub StepsAgree : Type 0
StepsAgree = (ring : ℕ → ℕ → Transfer) (filler : ℤ) (small large : ℕ) (xs : List Step) (s : Stage) (d y : Device) → Goes large ring xs s → Related ring s d y
    → Ends (Related ring (behind xs s)) (folded (prompt_step filler small) (first_list ring xs) d) (folded (prompt_step filler large) (second_list ring xs) y)
