-- Runs of the machine.
use Rattle.std.specs.Prelude.{ℕ, suc, ◌+◌, ◌-◌, ℤ, List, [], ◌∷◌, Option, Some, None, nat_eq, if◌then◌else◌}
use Rattle.bus_model.specs.declared.step.Step.{Step}
use Rattle.bus_model.specs.declared.step.Step.TheVariants.{Compute, Take, Move, Finish}
use Rattle.bus_model.specs.Engines.{Flight}
use Rattle.order_meaning.specs.Machine.{Machine, Enabled, after_step}

module _ (filler : ℤ) (capacity : ℕ) where
  -- the state after some steps
  abbrev pub after_steps : Machine → List Step → Machine
  after_steps x [] = x
  after_steps x (s ∷ more) = after_steps (after_step filler capacity s x) more

  -- a list of steps, each enabled where it stands
  abbrev pub IsRun : Machine → List Step → Type 0
  IsRun x [] = Unit {0}
  IsRun x (s ∷ more) = Enabled s x × IsRun (after_step filler capacity s x) more

  -- a run after which no step is enabled
  pub record IsMaximal (x : Machine) (steps : List Step) : Type 0 where
    pub run : IsRun x steps
    pub last : (s : Step) → Enabled s (after_steps x steps) → ⊥

-- how many of the steps are actions
abbrev pub computes : List Step → ℕ
computes [] = 0
computes (Compute ∷ more) = suc (computes more)
computes (Take e t ∷ more) = computes more
computes (Move e ∷ more) = computes more
computes (Finish e ∷ more) = computes more

-- how many steps of engines an outstanding transfer still takes: the count and two, one to take it and one to let go of
-- it
abbrev pub left_by : Option ℕ → ℕ → ℕ → ℕ
left_by None moved count = if nat_eq moved 0 then count + 2 else 0
left_by (Some e) moved count = count - moved + 1

abbrev pub steps_left : Flight → ℕ
steps_left f = left_by f.engine f.moved f.transfer.count

abbrev pub all_left : List Flight → ℕ
all_left [] = 0
all_left (f ∷ fs) = steps_left f + all_left fs
