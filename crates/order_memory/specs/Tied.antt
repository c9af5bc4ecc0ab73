-- When the memory of the code stands for a state of the machine, and what its calls do to that state.
use Rattle.std.specs.Prelude.{◌≡◌, ℕ, ℤ, pos, ◌≤◌, ◌<◌, Bool, List, [], ◌∷◌, length, vec_capacity, Result, Ok, Err}
use Rattle.std.specs.Bool.{MatchBool}
use Rattle.affine_ast.specs.declared.name.Name.{Name}
use Rattle.bus_model.specs.declared.step.FaultKind.{FaultKind}
use Rattle.direct_meaning.specs.Action.{Place}
use Rattle.direct_meaning.specs.Direct.{Outcome, End, Fault, keep}
use Rattle.run_parts.specs.Registered.{values_of}
use Rattle.bus_model.specs.Engines.{Flight}
use Rattle.prompt_laws.specs.Rooms.{Room, room_at}
use Rattle.bus_model.specs.declared.step.Step.TheVariants.{Take, Move, Finish}
use Rattle.order_meaning.specs.Machine.{Here, Core, transfers_of, load, engine_step}
use Rattle.order_engines.specs.Flying.{flights_of, MayTake, MayMove, MayFinish}
use Rattle.order_engines.specs.Waiting.{IsFlights}
use Rattle.order_memory.specs.declared.memory.Memory.{Memory}
use Rattle.order_memory.specs.Halves.{SameHalves}

-- an outstanding transfer is of a half that is there, with as many cells
pub record FlightHome (rooms : List Room) (f : Flight) : Type 0 where
  pub there : f.transfer.fast < length rooms
  pub half_there : f.transfer.half < (room_at rooms f.transfer.fast).halves
  pub long : length f.cells ≡ (room_at rooms f.transfer.fast).cells

abbrev pub AllHome : List Room → List Flight → Type 0
AllHome rooms [] = Unit {0}
AllHome rooms (f ∷ fs) = FlightHome rooms f × AllHome rooms fs

pub record Tied (rooms : List Room) (x : Core) (m : Memory) : Type 0 where
  -- all parts are those of the state
  pub registers : x.state.registers ≡ values_of m.registers
  pub slow : x.state.slow ≡ m.slow.items
  pub live : x.live ≡ m.live
  pub flights : x.flights ≡ flights_of m.flights.flying.items
  pub records : m.records.items ≡ transfers_of x.flights
  pub halves : SameHalves rooms x.halves m.halves.items
  pub home : AllHome rooms x.flights
  -- the outstanding transfers fit the slow list, and the tags that wait are listed
  pub fly : IsFlights (length m.slow.items) m.flights
  -- there is room for a transfer of each tag
  pub room : 65536 ≤ vec_capacity m.flights.flying
  pub waiting_room : 65537 ≤ vec_capacity m.flights.waiting
  pub record_room : 65536 ≤ vec_capacity m.records

-- a state before the first action: nothing is allocated and nothing outstanding
pub record IsFirst (slow : List ℤ) (x : Core) : Type 0 where
  pub registers : x.state.registers ≡ (λ n. pos 0)
  pub slow_is : x.state.slow ≡ slow
  pub live : x.live ≡ 0
  pub halves : x.halves ≡ (λ number half. Here [])
  pub flights : x.flights ≡ []

-- an action is done, or is that fault, and the memory then stands for the outcome's state
abbrev pub Follows : List Room → Result (Unit {0}) FaultKind → Outcome Core → Memory → Type 0
Follows rooms (Ok done) outcome m = (x : Core) × (outcome ≡ End x) × Tied rooms x m
Follows rooms (Err kind) outcome m = (x : Core) × (outcome ≡ Fault kind x) × Tied rooms x m

-- an action is done
abbrev pub Ends : List Room → Outcome Core → Memory → Type 0
Ends rooms outcome m = (x : Core) × (outcome ≡ End x) × Tied rooms x m

-- a load gives its number to whatever name it has
abbrev pub Gives : Result ℤ FaultKind → Place → Core → Type 0
Gives (Ok z) place x = (r : Name) → load r place x ≡ End (record x { state = keep r z x.state })
Gives (Err kind) place x = (r : Name) → load r place x ≡ Fault kind x

-- a step of an engine is made where it may be, and else nothing changes
abbrev pub TakesOrNot : List Room → ℕ → ℕ → ℕ → Bool → Core → Memory → Type 0
TakesOrNot rooms engines engine tag done x m = MatchBool done
    (MayTake engines engine tag x.flights × Tied rooms (engine_step (Take engine tag) x) m)
    ((MayTake engines engine tag x.flights → ⊥) × Tied rooms x m)

abbrev pub MovesOrNot : List Room → ℕ → ℕ → Bool → Core → Memory → Type 0
MovesOrNot rooms engines engine done x m = MatchBool done
    (MayMove engines engine x.flights × Tied rooms (engine_step (Move engine) x) m)
    ((MayMove engines engine x.flights → ⊥) × Tied rooms x m)

abbrev pub FinishesOrNot : List Room → ℕ → ℕ → Bool → Core → Memory → Type 0
FinishesOrNot rooms engines engine done x m = MatchBool done
    (MayFinish engines engine x.flights × Tied rooms (engine_step (Finish engine) x) m)
    ((MayFinish engines engine x.flights → ⊥) × Tied rooms x m)
