-- The enabled steps of a state, in their order.
use Rattle.std.specs.Prelude.{◌≡◌, ◌↔◌, ℕ, zero, suc, ◌<◌, List, [], ◌∷◌, ◌++◌, map, Option, Some, None, nat_lt, if◌then◌else◌, slice_get}
use Rattle.bus_model.specs.declared.step.Step.{Step}
use Rattle.bus_model.specs.declared.step.Step.TheVariants.{Compute, Take, Move, Finish}
use Rattle.bus_model.specs.declared.step.Verdict.{Verdict}
use Rattle.bus_model.specs.Engines.{Flight, flight_of}
use Rattle.direct_meaning.specs.Action.{Action}
use Rattle.prompt_semantics.specs.Device.{Device}
use Rattle.order_meaning.specs.Machine.{Machine, is_held_up, held_by, CanBeTaken, Enabled}
use Rattle.order_meaning.specs.Agree.{Agree}

-- a list has an item: it stands at some place
abbrev pub Has : {A : Type 0} → List A → A → Type 0
Has items x = (k : ℕ) × (slice_get items k ≡ Some x)

-- a number is below each of a list
abbrev pub IsBelow : ℕ → List ℕ → Type 0
IsBelow t [] = Unit {0}
IsBelow t (u ∷ us) = (t < u) × IsBelow t us

abbrev pub IsAscending : List ℕ → Type 0
IsAscending [] = Unit {0}
IsAscending (t ∷ ts) = IsBelow t ts × IsAscending ts

-- the tags of the transfers that an engine can take, ascending
pub record IsWaiting (flights : List Flight) (tags : List ℕ) : Type 0 where
  pub ascending : IsAscending tags
  pub members : (t : ℕ) → CanBeTaken (flight_of flights t) ↔ Has tags t

-- the next action, unless it is held up
abbrev pub compute_steps : List Action → List Flight → List Step
compute_steps [] flights = []
compute_steps (a ∷ more) flights = if is_held_up a flights then [] else Compute ∷ []

-- an idle engine can take each waiting transfer, by ascending tag; one that holds a transfer can move its next element,
-- or let go of it where none is left
abbrev pub engine_steps : List ℕ → ℕ → Option Flight → List Step
engine_steps tags e None = map (Take e) tags
engine_steps tags e (Some f) = (if nat_lt f.moved f.transfer.count then Move e else Finish e) ∷ []

-- those of so many engines from one on, in order
abbrev pub steps_from : List Flight → List ℕ → ℕ → ℕ → List Step
steps_from flights tags e zero = []
steps_from flights tags e (suc n) = engine_steps tags e (held_by flights e) ++ steps_from flights tags (suc e) n

abbrev pub listed : Option Verdict → Machine → List ℕ → List Step
listed None x tags = compute_steps x.rest x.core.flights ++ steps_from x.core.flights tags 0 x.engines
listed (Some v) x tags = []

-- the enabled steps: the next action, then those of each engine
pub record IsListed (x : Machine) (steps : List Step) : Type 0 where
  pub tags : List ℕ
  pub waiting : IsWaiting x.core.flights tags
  pub is : steps ≡ listed x.verdict x tags

-- in each state that agrees with a prompt state, the list has exactly the enabled steps
abbrev pub ListsEnabled : Type 0
ListsEnabled = (x : Machine) (y : Device) → Agree x.engines x.core y → (steps : List Step) → IsListed x steps
    → (s : Step) → Enabled s x ↔ Has steps s

-- and there is one such list
abbrev pub ListsOne : Type 0
ListsOne = (x : Machine) (steps others : List Step) → IsListed x steps → IsListed x others → steps ≡ others
