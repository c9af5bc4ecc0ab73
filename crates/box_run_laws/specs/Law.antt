-- The laws: the run with more placements ends as the run without them, and a run whose live bytes don't pass the capacity
-- is a run without one.
use Rattle.std.specs.Prelude.{◌≡◌, ℕ, ◌≤◌, max, ℤ, Bool, List, [], ◌∷◌, length}
use Rattle.affine_ast.specs.declared.name.Name.{Name}
use Rattle.affine_ast.specs.declared.image.Image.{Image}
use Rattle.direct_meaning.specs.Action.{Action}
use Rattle.direct_meaning.specs.Direct.{Outcome, End, Fault, folded, State, state_of, first_state, direct_step}
use Rattle.prompt_semantics.specs.Device.{Device}
use Rattle.prompt_semantics.specs.Prompt.{prompt_step, first_device}
use Rattle.box_run_laws.specs.Roomy.{roomy_step, most_live}
use Rattle.boxes.specs.Every.{Every}
use Rattle.box_run_laws.specs.Layouts.{Numbering, Renumbers}
use Rattle.box_run_laws.specs.Plain.{IsPlain}
use Rattle.box_run_laws.specs.Parts.{Part, original, staged, Meets}
use Rattle.box_run_laws.specs.Runs.{Run, run_old, run_new, MeetsRun}

-- the same verdict, and at the end the same slow memory
abbrev pub SameEnd : Outcome Device → Outcome Device → Type 0
SameEnd (End d) (End y) = d.state.slow ≡ y.state.slow
SameEnd (Fault k d) (Fault j y) = k ≡ j
SameEnd (End d) (Fault j y) = ⊥
SameEnd (Fault k d) (End y) = ⊥

-- a run in which placements are added to the loops of the given parts has the verdict of the run without them, and at the
-- end its slow memory
abbrev pub PlacementsAgree : Type 0
PlacementsAgree = (own : Name → Bool) (nu : Numbering) → Renumbers nu → (memory : Image) (ps : List (Part Run))
    → Meets own nu run_old (MeetsRun own nu (length (first_state memory).slow)) ps [] → (filler : ℤ)
    → SameEnd (folded (roomy_step filler) (original run_old ps) (first_device memory))
    (folded (roomy_step filler) (staged nu (run_new nu) ps) (first_device memory))

-- where the live bytes of a run without bound never pass the capacity, the run with the capacity is that run
abbrev pub CapacityKept : Type 0
CapacityKept = (filler : ℤ) (capacity : ℕ) (xs : List Action) (y : Device)
    → (state_of (folded (roomy_step filler) xs y)).peak ≤ capacity
    → folded (prompt_step filler capacity) xs y ≡ folded (roomy_step filler) xs y

-- the live bytes of a run are known before it
abbrev pub LiveKnown : Type 0
LiveKnown = (filler : ℤ) (xs : List Action) (y : Device)
    → (state_of (folded (roomy_step filler) xs y)).peak ≤ max y.peak (most_live xs y.live)

-- one list of actions with placements added is another
pub record Step (total : ℕ) (xs ys : List Action) : Type 0 where
  pub own : Name → Bool
  pub nu : Numbering
  pub renumbers : Renumbers nu
  pub parts : List (Part Run)
  pub meets : Meets own nu run_old (MeetsRun own nu total) parts []
  pub old_is : original run_old parts ≡ xs
  pub new_is : staged nu (run_new nu) parts ≡ ys

-- each list is the one before with placements added
abbrev pub Steps : ℕ → List Action → List (List Action) → Type 0
Steps total xs [] = Unit {0}
Steps total xs (ys ∷ more) = Step total xs ys × Steps total ys more

abbrev pub last_of : List Action → List (List Action) → List Action
last_of xs [] = xs
last_of xs (ys ∷ more) = last_of ys more

-- the second run ends where the first one does, with its slow memory, or stops at the same fault
abbrev pub Agrees : Outcome State → Outcome Device → Type 0
Agrees (End s) (End y) = s.slow ≡ y.state.slow
Agrees (Fault k s) (Fault j y) = k ≡ j
Agrees (End s) (Fault j y) = ⊥
Agrees (Fault k s) (End y) = ⊥

-- whatever placements are added one after the other to a module without allocations and transfers, the last run has at a
-- capacity that its live bytes don't pass the verdict of the module's direct meaning, and at the end its slow memory
abbrev pub StagingAgrees : Type 0
StagingAgrees = (memory : Image) (xs : List Action) (more : List (List Action)) → Every IsPlain xs
    → Steps (length (first_state memory).slow) xs more
    → (filler : ℤ) (capacity : ℕ) → most_live (last_of xs more) 0 ≤ capacity
    → Agrees (folded direct_step xs (first_state memory))
    (folded (prompt_step filler capacity) (last_of xs more) (first_device memory))
