-- The law of all orders.
use Rattle.std.specs.Prelude.{◌≡◌, ℕ, ◌+◌, ◌≤◌, ℤ, List, ◌++◌, length, take, Some}
use Rattle.affine_ast.specs.declared.image.Image.{Image}
use Rattle.bus_model.specs.declared.step.FaultKind.{FaultKind}
use Rattle.bus_model.specs.declared.step.Step.{Step}
use Rattle.bus_model.specs.declared.step.Verdict.TheVariants as verdict
use Rattle.direct_meaning.specs.Action.{Action}
use Rattle.direct_meaning.specs.Direct.{Outcome, End, Fault, folded, first_state, state_of}
use Rattle.prompt_semantics.specs.Device.{Device}
use Rattle.prompt_semantics.specs.Prompt.{prompt_step, first_device}
use Rattle.order_meaning.specs.Machine.{Machine, first_machine}
use Rattle.order_meaning.specs.Run.{after_steps, IsRun, IsMaximal, computes}
use Rattle.order_meaning.specs.Agree.{Agree}
use Rattle.order_meaning.specs.Orderly.{Orderly}

module _ (filler : ℤ) (capacity : ℕ) (actions : List Action) (m : Image) where
  -- the prompt meaning of these actions, and its state after so many of them
  abbrev pub promptly : Outcome Device
  promptly = folded (prompt_step filler capacity) actions (first_device m)

  abbrev pub promptly_after : ℕ → Device
  promptly_after k = state_of (folded (prompt_step filler capacity) (take k actions) (first_device m))

  module _ (engines : ℕ) where
    abbrev pub first : Machine
    first = first_machine engines actions m

    -- a maximal run where the prompt meaning ends
    pub record Ended (steps : List Step) (y : Device) : Type 0 where
      pub verdict : (after_steps filler capacity first steps).verdict ≡ Some verdict.End
      pub slow : (after_steps filler capacity first steps).core.state.slow ≡ y.state.slow
      pub count : length steps ≡ y.actions + y.engine_steps

    -- and where it stops at a fault
    pub record Faulted (steps : List Step) (k : FaultKind) (y : Device) : Type 0 where
      pub verdict : (after_steps filler capacity first steps).verdict ≡ Some (verdict.Fault k)
      pub count : length steps ≤ y.actions + y.engine_steps

    pub record OrdersAgree : Type 0 where
      -- in each state of a run, it agrees with the prompt state after as many actions
      pub agree : (steps : List Step) → IsRun filler capacity first steps
          → Agree engines (after_steps filler capacity first steps).core (promptly_after (computes steps))
      -- each run is a prefix of a maximal one
      pub onward : (steps : List Step) → IsRun filler capacity first steps → (more : List Step)
          × IsMaximal filler capacity first (steps ++ more)
      -- no run is longer than the prompt meaning's numbers say
      pub bounded : (steps : List Step) → IsRun filler capacity first steps
          → length steps ≤ (state_of promptly).actions + (state_of promptly).engine_steps
      pub ended : (steps : List Step) → IsMaximal filler capacity first steps → (y : Device) → promptly ≡ End y
          → Ended steps y
      pub faulted : (steps : List Step) → IsMaximal filler capacity first steps → (k : FaultKind) (y : Device)
          → promptly ≡ Fault k y → Faulted steps k y

-- for all orders
abbrev pub AllOrdersAgree : Type 0
AllOrdersAgree = (filler : ℤ) (capacity : ℕ) (actions : List Action) (m : Image) (engines : ℕ) → 1 ≤ engines
    → Orderly (length (first_state m).slow) actions → OrdersAgree filler capacity actions m engines
