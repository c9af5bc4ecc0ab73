-- Runs whose steps are chosen by numbers.
use Rattle.std.specs.Prelude.{◌≡◌, ℕ, ◌+◌, ◌*◌, ◌/◌, ◌%◌, ◌^◌, ℤ, List, [], ◌∷◌, ◌++◌, length, Some, slice_get}
use Rattle.affine_ast.specs.declared.image.Image.{Image}
use Rattle.affine_ast.specs.declared.module.Module.{Module}
use Rattle.bus_model.specs.declared.step.Step.{Step}
use Rattle.bus_model.specs.declared.step.Verdict.{Verdict}
use Rattle.prompt_semantics.specs.Prompt.{prompt, prompt_verdict}
use Rattle.run_laws.specs.StaysFitting.{with_slow}
use Rattle.order_meaning.specs.Machine.{Machine, after_step}
use Rattle.order_meaning.specs.Run.{IsMaximal}
use Rattle.order_meaning.specs.Listed.{IsListed}
use Rattle.order_machine.specs.declared.machine.Machine.{Machine as Code}
use Rattle.order_machine.specs.declared.orders.Ordered.{Ordered}
use Rattle.order_machine.specs.Standing.{Setting, IsAt, first_of, after}

-- the numbers that choose: each is made from the one before it
abbrev pub next_number : ℕ → ℕ
next_number x = (x * 6364136223846793005 + 1442695040888963407) % 2 ^ 64

-- the one behind as many steps
abbrev pub number_after : ℕ → List Step → ℕ
number_after x [] = x
number_after x (s ∷ steps) = number_after (next_number x) steps

-- of the enabled steps in their order, the one that a number without its lowest 33 bits names, taken by how many they are
pub record Chosen (x : ℕ) (m : Machine) (s : Step) (k : ℕ) : Type 0 where
  pub enabled : List Step
  pub listed : IsListed m enabled
  pub number : k ≡ x / 2 ^ 33 % length enabled
  pub chosen : slice_get enabled k ≡ Some s

-- a run, step by step, with the numbers of its steps in their order: each is chosen by the next number
abbrev pub Picks : ℤ → ℕ → ℕ → Machine → List Step → List ℕ → Type 0
Picks filler capacity x m [] [] = Unit {0}
Picks filler capacity x m [] (k ∷ numbers) = ⊥
Picks filler capacity x m (s ∷ steps) [] = ⊥
Picks filler capacity x m (s ∷ steps) (k ∷ numbers) = Chosen (next_number x) m s k × Picks filler capacity (next_number x) (after_step filler capacity s m) steps numbers

abbrev pub total : List ℕ → ℕ
total [] = 0
total (k ∷ numbers) = k + total numbers

-- a run by a pick from the first state on, and the sum of the numbers of its steps
pub record Picked (s : Setting) (pick : ℕ) (steps : List Step) (trace : ℕ) : Type 0 where
  pub numbers : List ℕ
  pub picks : Picks s.filler s.capacity pick (first_of s) steps numbers
  pub trace_is : trace ≡ total numbers % 2 ^ 64

-- one step chosen and made
pub record Chooses (s : Setting) (steps : List Step) (x k : ℕ) (m : Code) : Type 0 where
  pub step : Step
  pub chosen : Chosen x (after s steps) step k
  pub at : IsAt s (steps ++ step ∷ []) m

-- a run by a pick, to its end
pub record RunBy (s : Setting) (pick : ℕ) (verdict : Verdict) (trace : ℕ) (m : Code) : Type 0 where
  pub steps : List Step
  pub picked : Picked s pick steps trace
  pub at : IsAt s steps m
  pub verdict_is : (after s steps).verdict ≡ Some verdict

abbrev pub setting : Module → Image → ℤ → ℕ → ℕ → Setting
setting module_ memory filler capacity engines = record { module_ = module_; memory = memory; filler = filler; capacity = capacity; engines = engines }

-- the run that a pick names: its steps until none is enabled, how it ended, its slow memory and its trace
pub record RunsOrder (s : Setting) (pick : ℕ) (o : Ordered) : Type 0 where
  pub steps : List Step
  pub maximal : IsMaximal s.filler s.capacity (first_of s) steps
  pub picked : Picked s pick steps o.trace
  pub verdict_is : (after s steps).verdict ≡ Some o.verdict
  pub image_is : o.image ≡ with_slow s.memory (after s steps).core.state.slow
  pub steps_are : o.steps ≡ length steps
  -- so, by the law of all orders, it ended as the prompt meaning
  pub prompt_is : o.verdict ≡ prompt_verdict (prompt s.module_ s.memory s.filler s.capacity)
