-- What a machine by number holds, as the state of the direct meaning.
use Rattle.std.specs.Prelude.{◌≡◌, ℕ, length}
use Rattle.direct_meaning.specs.Action.{Action, Loads, Stores}
use Rattle.direct_meaning.specs.Direct.{State}
use Rattle.run_laws.specs.CanRun.{PlaceIn}
use Rattle.run_parts.specs.Registered.{values_of}
use Rattle.nest_meaning.specs.declared.machine.Machine.{Machine}

abbrev pub state_at : Machine → State
state_at m = record { registers = values_of m.registers; slow = m.slow.items }

-- a machine for the same names, with as large a memory
pub record Same (old new : Machine) : Type 0 where
  pub names : new.registers.names ≡ old.registers.names
  pub slow : length new.slow.items ≡ length old.slow.items

-- an action with its operands read reaches no place but those of a slow memory of so many cells
abbrev pub Lands : ℕ → Action → Type 0
Lands cells (Loads r place) = PlaceIn cells place
Lands cells (Stores x place) = PlaceIn cells place
Lands cells a = Unit {0}
