-- What holds of both runs' devices at a stage, and how two runs end alike.
use Rattle.std.specs.Prelude.{◌≡◌, ℕ, ◌<◌, true, length}
use Rattle.bus_model.specs.declared.step.FaultKind.{FaultKind}
use Rattle.bus_model.specs.declared.step.FaultKind.TheVariants.{Bounds, Divide, Touched, Race, Tag, Capacity, Shape}
use Rattle.bus_model.specs.declared.transfer.Transfer.{Transfer}
use Rattle.bus_model.specs.Copies.{number_at}
use Rattle.direct_meaning.specs.Action.{Place}
use Rattle.direct_meaning.specs.Direct.{Outcome, End, Fault}
use Rattle.prompt_semantics.specs.Device.{Device}
use Rattle.step_runs.specs.Stage.{value_at, HasRoom, slow_end, fast_end, Stage, place_in, image}
use Rattle.step_runs.specs.Woven.{Woven}

module _ (ring : ℕ → ℕ → Transfer) where
  pub record Related (s : Stage) (d y : Device) : Type 0 where
    pub registers : y.state.registers ≡ d.state.registers
    pub long : length y.state.slow ≡ length d.state.slow
    -- what agrees is the same, and what is there has room
    pub values : (q : Place) → s.agrees q ≡ true → value_at (place_in s q) y ≡ value_at q d
    pub fresh : (p : ℕ) → s.fresh p ≡ true → number_at y.state.slow p ≡ number_at d.state.slow p
    pub room_first : (q : Place) → s.there q ≡ true → HasRoom q d
    pub room_second : (q : Place) → s.there q ≡ true → HasRoom (place_in s q) y
    pub made : (q : Place) → s.made q ≡ true → HasRoom q y
    pub live : y.live ≡ s.live
    -- the outstanding transfers
    pub first : d.outstanding ≡ s.first
    pub second : Woven ring (image s) s.first s.out y.outstanding
    -- a transfer of the second run that copies in has in its half what the slow memory has now
    pub arrived : (i j : ℕ) → s.out i j ≡ true → (ring i j).incoming ≡ true → (e : ℕ) → e < (ring i j).count → value_at (fast_end (ring i j) e) y ≡ value_at (slow_end (ring i j) e) y

-- a fault that a run without transfers can have
abbrev pub IsPlain : FaultKind → Type 0
IsPlain Bounds = Unit {0}
IsPlain Divide = Unit {0}
IsPlain Touched = ⊥
IsPlain Race = ⊥
IsPlain Tag = ⊥
IsPlain Capacity = ⊥
IsPlain Shape = ⊥

-- the second run ends related to the first; where the first has a plain fault the second has the same. Of other faults of
-- the first run nothing is said
abbrev pub Ends : (Device → Device → Type 0) → Outcome Device → Outcome Device → Type 0
Ends R (End d) (End y) = R d y
Ends R (End d) (Fault j y) = ⊥
Ends R (Fault k d) (End y) = IsPlain k → ⊥
Ends R (Fault k d) (Fault j y) = IsPlain k → k ≡ j
