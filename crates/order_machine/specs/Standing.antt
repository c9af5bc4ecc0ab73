-- A machine of the code after some steps of a run.
use Rattle.std.specs.Prelude.{◌≡◌, ℕ, ◌^◌, ◌≤◌, ◌<◌, ℤ, Bool, true, List, [], ◌∷◌, ◌++◌, length, Option, Some, None, Result, Ok, Err}
use Rattle.std.specs.Bool.{MatchBool}
use Rattle.affine_ast.specs.declared.image.Image.{Image}
use Rattle.affine_ast.specs.declared.module.Module.{Module}
use Rattle.affine_ast.specs.Validity.{IsValid}
use Rattle.bus_model.specs.declared.step.Step.{Step}
use Rattle.bus_model.specs.Engines.{Flight}
use Rattle.direct_meaning.specs.Action.{Action as Meaning}
use Rattle.direct_meaning.specs.Memory.{Fits, module_actions}
use Rattle.direct_meaning.specs.Work.{work}
use Rattle.walk_actions.specs.declared.action.Action.{Action}
use Rattle.walk_actions.specs.Meant.{meant, NamesIn}
use Rattle.nest_walk.specs.Walked.{Walked}
use Rattle.prompt_laws.specs.Rooms.{module_rooms}
use Rattle.order_meaning.specs.Machine.{Machine as Model, Enabled, first_machine, is_held_up}
use Rattle.order_meaning.specs.Run.{after_steps, IsRun}
use Rattle.order_meaning.specs.Listed.{IsListed}
use Rattle.order_memory.specs.Tied.{Tied}
use Rattle.order_machine.specs.declared.machine.Machine.{Machine}

-- a module, the memory at its start, the filler, the capacity in bytes and the number of engines
pub record Setting : Type 0 where
  pub module_ : Module
  pub memory : Image
  pub filler : ℤ
  pub capacity : ℕ
  pub engines : ℕ

-- the module is valid, the memory fits it, there is an engine, and the work is bounded
pub record IsSound (s : Setting) : Type 0 where
  pub valid : IsValid s.module_
  pub fits : Fits s.module_ s.memory
  pub some_engine : 1 ≤ s.engines
  pub work : work s.module_ ≤ 2 ^ 48

-- the machine at the start, and after some steps
abbrev pub first_of : Setting → Model
first_of s = first_machine s.engines (module_actions s.module_ s.memory.symbols) s.memory

abbrev pub after : Setting → List Step → Model
after s steps = after_steps s.filler s.capacity (first_of s) steps

abbrev pub IsRunOf : Setting → List Step → Type 0
IsRunOf s steps = IsRun s.filler s.capacity (first_of s) steps

-- the actions that are left: the one that the walk gave last, and those that it has left
abbrev pub left_of : Option Action → Walked → List Meaning
left_of None walk = []
left_of (Some a) walk = meant walk.names walk.subscripts a ∷ walk.left

abbrev pub NextIn : Option Action → Walked → Type 0
NextIn None walk = Unit {0}
NextIn (Some a) walk = NamesIn (length walk.names) walk.subscripts a

-- the machine of the code is that of the setting after these steps of a run, but for their count
pub record Stood (s : Setting) (steps : List Step) (m : Machine) : Type 0 where
  pub sound : IsSound s
  pub run : IsRunOf s steps
  pub filler : m.filler ≡ s.filler
  pub capacity : m.capacity ≡ s.capacity
  pub engines : m.engines ≡ s.engines
  pub image : m.image ≡ s.memory
  pub memrefs : m.memrefs.items ≡ s.memory.memrefs
  pub verdict : (after s steps).verdict ≡ m.verdict
  pub rest : (after s steps).verdict ≡ None → (after s steps).rest ≡ left_of m.next m.walk
  pub names : m.memory.registers.names ≡ m.walk.names
  pub inside : NextIn m.next m.walk
  pub tied : Tied (module_rooms s.module_) (after s steps).core m.memory

-- the machine of the code after these steps of a run, which it has counted
pub record IsAt (s : Setting) (steps : List Step) (m : Machine) : Type 0 where
  pub stood : Stood s steps m
  pub count : m.steps ≡ length steps

-- it is so after some steps of some setting
abbrev pub IsSomewhere : Machine → Type 0
IsSomewhere m = (s : Setting) × (steps : List Step) × IsAt s steps m

-- a step is made where it is enabled, and else nothing changes
abbrev pub Steps : {E : Type 0} → Setting → List Step → Step → Result (Unit {0}) E → Machine → Type 0
Steps s steps step (Ok done) m = Enabled step (after s steps) × IsAt s (steps ++ step ∷ []) m
Steps s steps step (Err e) m = (Enabled step (after s steps) → ⊥) × IsAt s steps m

-- the same of a step that isn't counted yet
abbrev pub Makes : Setting → List Step → Step → Bool → Machine → Type 0
Makes s steps step done m = MatchBool done
    (Enabled step (after s steps) × Stood s (steps ++ step ∷ []) m)
    ((Enabled step (after s steps) → ⊥) × Stood s steps m)

abbrev pub StandsSomewhere : Machine → Type 0
StandsSomewhere m = (s : Setting) × (steps : List Step) × Stood s steps m

-- no action is left, or the next one is held up
abbrev pub stuck : List Meaning → List Flight → Bool
stuck [] flights = true
stuck (a ∷ more) flights = is_held_up a flights

-- all is the same but the next action, the walk and the verdict
pub record SameElse (old new : Machine) : Type 0 where
  pub memory : new.memory ≡ old.memory
  pub image : new.image ≡ old.image
  pub memrefs : new.memrefs ≡ old.memrefs
  pub steps : new.steps ≡ old.steps
  pub filler : new.filler ≡ old.filler
  pub capacity : new.capacity ≡ old.capacity
  pub engines : new.engines ≡ old.engines

-- a number below that of the enabled steps
abbrev pub IsNumber : Machine → ℕ → Type 0
IsNumber m n = (s : Setting) × (steps : List Step) × (enabled : List Step) × IsAt s steps m × IsListed (after s steps) enabled × (n < length enabled)
