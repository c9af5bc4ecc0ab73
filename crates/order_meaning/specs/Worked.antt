-- A worked run: two elements go out of a fresh half.
use Rattle.std.specs.Prelude.{◌≡◌, pos, false, List, [], ◌∷◌, Some}
use Rattle.affine_ast.specs.declared.image.Image.{Image}
use Rattle.affine_ast.specs.declared.types.Element.TheVariants.{I32}
use Rattle.bus_model.specs.declared.step.Step.{Step}
use Rattle.bus_model.specs.declared.step.Step.TheVariants.{Compute, Take, Move, Finish}
use Rattle.bus_model.specs.declared.step.Verdict.TheVariants as verdict
use Rattle.bus_model.specs.declared.transfer.Transfer.{Transfer}
use Rattle.direct_meaning.specs.Action.{Action, Allocates, Releases, AllocatesTags, ReleasesTags, Starts, Waits, Returns}
use Rattle.prompt_semantics.specs.Prompt.{prompt_numbers}
use Rattle.order_meaning.specs.Machine.{Machine, first_machine}
use Rattle.order_meaning.specs.Run.{after_steps, IsRun}
use Rattle.order_meaning.specs.Orderly.{Orderly}
use Rattle.order_meaning.specs.Law.{promptly, OrdersAgree}

abbrev pub memory : Image
memory = record { memrefs = record { values = pos 1 ∷ pos 2 ∷ pos 3 ∷ pos 4 ∷ [] } ∷ []; symbols = [] }

-- cells 0 and 1 go to the slow places 1 and 2
abbrev pub two_out : Transfer
two_out = record { incoming = false; tag = 0; memref = 0; base = 1; stride = 2; chunk = 2; count = 2; fast = 0; half = 0; offset = 0 }

abbrev pub worked_actions : List Action
worked_actions = Allocates 0 I32 (1 ∷ 2 ∷ []) ∷ AllocatesTags 0 1 ∷ Starts two_out ∷ Waits 0 2 ∷ ReleasesTags 0 1 ∷ Releases 0 I32 (1 ∷ 2 ∷ []) ∷ Returns ∷ []

-- the second of two engines moves them
abbrev pub worked_steps : List Step
worked_steps = Compute ∷ Compute ∷ Compute ∷ Take 1 0 ∷ Move 1 ∷ Move 1 ∷ Finish 1 ∷ Compute ∷ Compute ∷ Compute ∷ Compute ∷ []

abbrev pub worked_machine : Machine
worked_machine = first_machine 2 worked_actions memory

-- the actions are orderly, so all orders agree; this run is one, it ends, with the filler 7 in the two places, in as
-- many steps as the prompt meaning says
pub record WorkedRun : Type 0 where
  pub orderly : Orderly 4 worked_actions
  pub agree : OrdersAgree (pos 7) 8 worked_actions memory 2
  pub run : IsRun (pos 7) 8 worked_machine worked_steps
  pub verdict : (after_steps (pos 7) 8 worked_machine worked_steps).verdict ≡ Some verdict.End
  pub slow : (after_steps (pos 7) 8 worked_machine worked_steps).core.state.slow ≡ pos 1 ∷ pos 7 ∷ pos 7 ∷ pos 4 ∷ []
  pub numbers : prompt_numbers (promptly (pos 7) 8 worked_actions memory) ≡ record { actions = 7; engine_steps = 4; peak = 8 }
