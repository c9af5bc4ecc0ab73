-- Runs whose steps a policy chooses.
use Rattle.std.specs.Prelude.{◌≡◌, ◌↔◌, ℕ, ℤ, Bool, true, false, ◌||◌, List, [], ◌∷◌, length, ◌<◌, Option, Some, None, nat_eq, if◌then◌else◌, slice_get}
use Rattle.bus_model.specs.declared.step.Step.{Step}
use Rattle.bus_model.specs.declared.step.Step.TheVariants.{Compute, Take, Move, Finish}
use Rattle.bus_model.specs.declared.step.Verdict.{Verdict}
use Rattle.prompt_semantics.specs.Prompt.{prompt, prompt_verdict}
use Rattle.run_laws.specs.StaysFitting.{with_slow}
use Rattle.order_meaning.specs.Machine.{Machine, Enabled, after_step}
use Rattle.order_meaning.specs.Listed.{IsListed}
use Rattle.order_machine.specs.declared.machine.Machine.{Machine as Code}
use Rattle.order_machine.specs.declared.policies.Halted.{Halted}
use Rattle.order_machine.specs.declared.policies.Policy.{Policy}
use Rattle.order_machine.specs.declared.policies.Policy.TheVariants.{Late, Early, Hold}
use Rattle.order_machine.specs.Standing.{Setting, IsRunOf, IsAt, first_of, after}

-- a step is one of an engine; it moves an element
abbrev pub is_of : ℕ → Step → Bool
is_of e Compute = false
is_of e (Take d t) = nat_eq d e
is_of e (Move d) = nat_eq d e
is_of e (Finish d) = nat_eq d e

abbrev pub is_move : ℕ → Step → Bool
is_move e Compute = false
is_move e (Take d t) = false
is_move e (Move d) = nat_eq d e
is_move e (Finish d) = false

abbrev pub last_of : List Step → Option Step
last_of [] = None
last_of (s ∷ []) = Some s
last_of (s ∷ t ∷ more) = last_of (t ∷ more)

-- the first that is no step of an engine
abbrev pub other_than : ℕ → List Step → Option Step
other_than e [] = None
other_than e (s ∷ more) = if is_of e s then other_than e more else Some s

-- the choice among the enabled steps, where the held engine has moved an element or not
abbrev pub choice : Policy → Bool → List Step → Option Step
choice Late moved enabled = slice_get enabled 0
choice Early moved enabled = last_of enabled
choice (Hold e) true enabled = other_than e enabled
choice (Hold e) false enabled = last_of enabled

abbrev pub moved_by : Policy → Bool → Step → Bool
moved_by Late moved s = moved
moved_by Early moved s = moved
moved_by (Hold e) moved s = moved || is_move e s

abbrev pub moved_after : Policy → Bool → List Step → Bool
moved_after p moved [] = moved
moved_after p moved (s ∷ steps) = moved_after p (moved_by p moved s) steps

-- a policy's choice in a state
abbrev pub Choice : Policy → Bool → Machine → Option Step → Type 0
Choice p moved m o = (enabled : List Step) × IsListed m enabled × (o ≡ choice p moved enabled)

-- a run, each step of which is the policy's choice
abbrev pub Obeys : ℤ → ℕ → Policy → Bool → Machine → List Step → Type 0
Obeys filler capacity p moved m [] = Unit {0}
Obeys filler capacity p moved m (s ∷ steps) = Choice p moved m (Some s) × Obeys filler capacity p (moved_by p moved s) (after_step filler capacity s m) steps

-- the machine after a run by a policy, and whether the held engine has moved an element
pub record Obeying (s : Setting) (p : Policy) (moved : Bool) (m : Code) : Type 0 where
  pub steps : List Step
  pub at : IsAt s steps m
  pub obeys : Obeys s.filler s.capacity p false (first_of s) steps
  pub moved_is : moved ≡ moved_after p false steps

-- the same where it chooses no step any more
pub record Obeyed (s : Setting) (p : Policy) (m : Code) : Type 0 where
  pub steps : List Step
  pub at : IsAt s steps m
  pub obeys : Obeys s.filler s.capacity p false (first_of s) steps
  pub halts : Choice p (moved_after p false steps) (after s steps) None

-- a held engine is one of them
abbrev pub HoldsBelow : ℕ → Policy → Type 0
HoldsBelow engines Late = Unit {0}
HoldsBelow engines Early = Unit {0}
HoldsBelow engines (Hold e) = e < engines

-- all that are enabled are the held engine's, and there is one
pub record OnlyHeld (p : Policy) (m : Machine) : Type 0 where
  pub engine : ℕ
  pub holds : p ≡ Hold engine
  pub step : Step
  pub enabled : Enabled step m
  pub own : (t : Step) → Enabled t m → is_of engine t ≡ true

-- the run that a policy names, up to where it chooses none: there is no verdict exactly where only the held engine's steps are enabled
pub record RunsPolicy (s : Setting) (p : Policy) (h : Halted) : Type 0 where
  pub steps : List Step
  pub run : IsRunOf s steps
  pub obeys : Obeys s.filler s.capacity p false (first_of s) steps
  pub halts : Choice p (moved_after p false steps) (after s steps) None
  pub verdict_is : h.verdict ≡ (after s steps).verdict
  pub held : (h.verdict ≡ None) ↔ OnlyHeld p (after s steps)
  pub image_is : h.image ≡ with_slow s.memory (after s steps).core.state.slow
  pub steps_are : h.steps ≡ length steps
  -- so, by the law of all orders, a verdict is the prompt meaning's
  pub prompt_is : (v : Verdict) → h.verdict ≡ Some v → v ≡ prompt_verdict (prompt s.module_ s.memory s.filler s.capacity)
