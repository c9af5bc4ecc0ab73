-- What engines do: each step, when it may be made, and the agreement that all of them keep.
use Rattle.std.specs.Prelude.{◌≡◌, ◌≢◌, ℕ, ℤ, ◌+◌, ◌<◌, true, false, List, [], ◌∷◌, length, Option, Some, None, slice_set, if◌then◌else◌, nat_eq}
use Rattle.std.specs.List.{All, Any}
use Rattle.bus_model.specs.declared.transfer.Transfer.{Transfer}
use Rattle.bus_model.specs.declared.transfer.Started.{Started}
use Rattle.bus_model.specs.declared.step.Step.{Step}
use Rattle.bus_model.specs.declared.step.Step.TheVariants.{Compute, Take, Move, Finish}
use Rattle.bus_model.specs.Places.{slow_place}
use Rattle.bus_model.specs.Copies.{number_at}
use Rattle.bus_model.specs.Ledger.{Progress, Ledger}

-- Which step the outstanding transfers let an engine make, each transfer with its moved count and its engine.

-- the engine holds none of them
abbrev pub HoldsNone : ℕ → List (Transfer × ℕ × Option ℕ) → Type 0
HoldsNone engine xs = All (λ x. x.2 ≢ Some engine) xs

-- an idle engine may take a transfer of which nothing is moved and that no engine holds; the engine of a transfer may move
-- its next element where one is left, and let go of it where none is. An action of the compute thread isn't judged
abbrev pub IsLegal : Step → List (Transfer × ℕ × Option ℕ) → Type 0
IsLegal Compute xs = ⊥
IsLegal (Take engine tag) xs = HoldsNone engine xs × Any (λ x. (x.0.tag ≡ tag) × (x.1 ≡ 0) × (x.2 ≡ None)) xs
IsLegal (Move engine) xs = Any (λ x. (x.2 ≡ Some engine) × (x.1 < x.0.count)) xs
IsLegal (Finish engine) xs = Any (λ x. (x.2 ≡ Some engine) × (x.1 ≡ x.0.count)) xs

-- an outstanding transfer with the half's cells, which were moved to it
pub record Flight : Type 0 where
  pub transfer : Transfer
  pub cells : List ℤ
  pub moved : ℕ
  pub engine : Option ℕ

-- slow memory, and the outstanding transfers in the order of their starts
pub record Device : Type 0 where
  pub slow : List ℤ
  pub flights : List Flight

-- the transfer of a tag
abbrev pub flight_of : List Flight → ℕ → Option Flight
flight_of [] t = None
flight_of (x ∷ xs) t = if nat_eq x.transfer.tag t then Some x else flight_of xs t

-- the transfer of a tag, changed
abbrev pub with_flight : List Flight → ℕ → (Flight → Flight) → List Flight
with_flight [] t f = []
with_flight (x ∷ xs) t f = if nat_eq x.transfer.tag t then f x ∷ xs else x ∷ with_flight xs t f

abbrev pub with_engine : Option ℕ → Flight → Flight
with_engine engine f = record { transfer = f.transfer; cells = f.cells; moved = f.moved; engine = engine }

-- the next element from its slow place into its cell
abbrev pub next_in : List ℤ → Flight → Flight
next_in slow f = record { transfer = f.transfer; cells = slice_set f.cells (f.transfer.offset + f.moved) (number_at slow (slow_place f.transfer f.moved)); moved = f.moved + 1; engine = f.engine }

-- the next element from its cell to its slow place
abbrev pub next_out : Flight → Flight
next_out f = record { transfer = f.transfer; cells = f.cells; moved = f.moved + 1; engine = f.engine }

abbrev pub slow_out : List ℤ → Flight → List ℤ
slow_out slow f = slice_set slow (slow_place f.transfer f.moved) (number_at f.cells (f.transfer.offset + f.moved))

-- an engine holds none of the transfers
abbrev pub IsAtRest : ℕ → Device → Type 0
IsAtRest e x = (t : ℕ) (f : Flight) → flight_of x.flights t ≡ Some f → f.engine ≢ Some e

-- a step of an engine, from a device to the next
pub data EngineStep : Device → Device → Type 0 where
  take : (x : Device) (e t : ℕ) (f : Flight) → IsAtRest e x → flight_of x.flights t ≡ Some f → f.engine ≡ None → f.moved ≡ 0 → EngineStep x record { slow = x.slow; flights = with_flight x.flights t (with_engine (Some e)) }
  move_in : (x : Device) (e t : ℕ) (f : Flight) → flight_of x.flights t ≡ Some f → f.engine ≡ Some e → f.transfer.incoming ≡ true → f.moved < f.transfer.count → EngineStep x record { slow = x.slow; flights = with_flight x.flights t (next_in x.slow) }
  move_out : (x : Device) (e t : ℕ) (f : Flight) → flight_of x.flights t ≡ Some f → f.engine ≡ Some e → f.transfer.incoming ≡ false → f.moved < f.transfer.count → EngineStep x record { slow = slow_out x.slow f; flights = with_flight x.flights t next_out }
  finish : (x : Device) (e t : ℕ) (f : Flight) → flight_of x.flights t ≡ Some f → f.engine ≡ Some e → f.moved ≡ f.transfer.count → EngineStep x record { slow = x.slow; flights = with_flight x.flights t (with_engine None) }

-- any number of steps
pub data EngineSteps : Device → Device → Type 0 where
  at_rest : (x : Device) → EngineSteps x x
  onward : (x y z : Device) → EngineStep x y → EngineSteps y z → EngineSteps x z

-- the prompt side: its slow memory, and each started transfer with its half's list
pub record Prompt : Type 0 where
  pub slow : List ℤ
  pub started : List Started

abbrev pub started_of : List Started → ℕ → Option Started
started_of [] t = None
started_of (x ∷ xs) t = if nat_eq x.transfer.tag t then Some x else started_of xs t

abbrev pub progress : Option Flight → Progress
progress None = record { moved = 0; cells = [] }
progress (Some f) = record { moved = f.moved; cells = f.cells }

abbrev pub progress_of : List Flight → ℕ → Progress
progress_of xs t = progress (flight_of xs t)

-- the device against the prompt side
pub record Agree (x : Device) (y : Prompt) : Type 0 where
  pub long : length x.slow ≡ length y.slow
  pub ledger : Ledger (length y.slow) (number_at x.slow) (number_at y.slow) (started_of y.started) (progress_of x.flights)
  pub same : (t : ℕ) (f : Flight) → flight_of x.flights t ≡ Some f → (st : Started) × (started_of y.started t ≡ Some st) × (st.transfer ≡ f.transfer)

-- after any steps of any engines the two agree, whatever their order
abbrev pub EnginesKeepAgreement : Type 0
EnginesKeepAgreement = (x x' : Device) (y : Prompt) → Agree x y → EngineSteps x x' → Agree x' y
