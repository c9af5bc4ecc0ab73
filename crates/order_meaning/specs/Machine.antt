-- The machine: a module's actions beside engines that move its transfers, an element at a time.
use Rattle.std.specs.Prelude.{◌≡◌, ℕ, ◌+◌, ◌-◌, ◌<◌, ℤ, pos, Bool, true, false, ◌&&◌, not, List, [], ◌∷◌, ◌++◌, map, Option, Some, None, nat_eq, nat_le, if◌then◌else◌, slice_index_or, slice_set}
use Rattle.affine_ast.specs.declared.name.Name.{Name}
use Rattle.affine_ast.specs.declared.image.Image.{Image}
use Rattle.affine_ast.specs.declared.types.Element.{Element}
use Rattle.bus_model.specs.declared.step.FaultKind.{FaultKind}
use Rattle.bus_model.specs.declared.step.FaultKind.TheVariants.{Bounds, Touched, Race, Tag, Capacity, Shape}
use Rattle.bus_model.specs.declared.step.Step.{Step}
use Rattle.bus_model.specs.declared.step.Step.TheVariants.{Compute, Take, Move, Finish}
use Rattle.bus_model.specs.declared.step.Verdict.{Verdict}
use Rattle.bus_model.specs.declared.step.Verdict.TheVariants as verdict
use Rattle.bus_model.specs.declared.transfer.Transfer.{Transfer}
use Rattle.bus_model.specs.Engines.{Flight, flight_of, with_flight, with_engine, next_in, next_out, slow_out}
use Rattle.direct_meaning.specs.Action.{Place, Slow, Fast, Outside, Action, Known, Sets, Loads, Stores, RawLoads, RawStores, Operates, Converts, Allocates, Releases, AllocatesTags, ReleasesTags, Starts, Waits, Faults, Returns}
use Rattle.direct_meaning.specs.Direct.{Outcome, End, Fault, State, keep, write, read, raw_place, direct_step, first_state}
use Rattle.prompt_semantics.specs.Prompt.{refused}
use Rattle.prompt_semantics.specs.Device.{bytes_of, put_half, put_halves, fresh_half, is_started, has_started, has_away, load_races, store_races, start_races}

-- a half is here with its cells, or away with the tag of its transfer
pub data Half : Type 0 where
  Here : List ℤ → Half
  Away : ℕ → Half

-- what actions and engines work on
pub record Core : Type 0 where
  -- what the names of data hold, and the slow list
  pub state : State
  -- the bytes of the fast memrefs that are allocated and not yet released
  pub live : ℕ
  -- each half of each fast memref
  pub halves : ℕ → ℕ → Half
  -- the transfers that were started and not yet waited for, in the order of their starts
  pub flights : List Flight

pub record Machine : Type 0 where
  -- its engines are numbered from 0
  pub engines : ℕ
  -- the actions that are left
  pub rest : List Action
  pub core : Core
  pub verdict : Option Verdict

-- ---- one action

abbrev pub transfers_of : List Flight → List Transfer
transfers_of flights = map (λ f. f.transfer) flights

-- an action that touches names alone, as the direct meaning has it
abbrev pub carried : Core → Outcome State → Outcome Core
carried x (End s) = End (record x { state = s })
carried x (Fault k s) = Fault k (record x { state = s })

abbrev pub load_half : Name → ℕ → Half → Core → Outcome Core
load_half r cell (Here cells) x = End (record x { state = keep r (slice_index_or cells cell (pos 0)) x.state })
load_half r cell (Away tag) x = Fault Touched x

abbrev pub load : Name → Place → Core → Outcome Core
load r (Slow place) x =
    refused (load_races (transfers_of x.flights) place) Race x (End (record x { state = keep r (slice_index_or x.state.slow place (pos 0)) x.state }))
load r (Fast number half cell) x = load_half r cell (x.halves number half) x
load r Outside x = Fault Bounds x

abbrev pub store_half : ℤ → ℕ → ℕ → ℕ → Half → Core → Outcome Core
store_half z number half cell (Here cells) x =
    End (record x { halves = put_half x.halves number half (Here (slice_set cells cell z)) })
store_half z number half cell (Away tag) x = Fault Touched x

abbrev pub store : ℤ → Place → Core → Outcome Core
store z (Slow place) x =
    refused (store_races (transfers_of x.flights) place) Race x (End (record x { state = write place z x.state }))
store z (Fast number half cell) x = store_half z number half cell (x.halves number half) x
store z Outside x = Fault Bounds x

-- an allocation: fresh halves, all here
abbrev pub allocate : ℤ → ℕ → ℕ → Element → List ℕ → Core → Outcome Core
allocate filler capacity number element sizes x =
    if nat_le (x.live + bytes_of element sizes) capacity
    then End (record x { halves = put_halves x.halves number (Here (fresh_half filler element sizes)); live = x.live + bytes_of element sizes })
    else Fault Capacity x

-- a transfer with its half's list, of which nothing is moved
abbrev pub sent : Transfer → List ℤ → Flight
sent t cells = record { transfer = t; cells = cells; moved = 0; engine = None }

-- a start: the half's list is moved out, and nothing is copied
abbrev pub start_half : Transfer → Half → Core → Outcome Core
start_half t (Here cells) x =
    refused (start_races (transfers_of x.flights) t) Race x (End (record x { halves = put_half x.halves t.fast t.half (Away t.tag); flights = x.flights ++ sent t cells ∷ [] }))
start_half t (Away tag) x = Fault Touched x

abbrev pub start : Transfer → Core → Outcome Core
start t x = refused (is_started (transfers_of x.flights) t.tag) Tag x (start_half t (x.halves t.fast t.half) x)

-- the outstanding transfers without a tag's
abbrev pub without_flight : ℕ → List Flight → List Flight
without_flight tag [] = []
without_flight tag (f ∷ fs) = if nat_eq f.transfer.tag tag then fs else f ∷ without_flight tag fs

-- a wait: the list is moved back
abbrev pub wait_on : Option Flight → ℕ → ℕ → Core → Outcome Core
wait_on None tag count x = Fault Tag x
wait_on (Some f) tag count x =
    if nat_eq f.transfer.count count
    then End (record x { halves = put_half x.halves f.transfer.fast f.transfer.half (Here f.cells); flights = without_flight tag x.flights })
    else Fault Shape x

-- one action, as the prompt meaning has it but for starts and waits
unfoldable pub act_on : ℤ → ℕ → Action → Core → Outcome Core
act_on filler capacity Known x = carried x (direct_step Known x.state)
act_on filler capacity (Sets r z) x = carried x (direct_step (Sets r z) x.state)
act_on filler capacity (Loads r place) x = load r place x
act_on filler capacity (Stores v place) x = store (read x.state.registers v) place x
act_on filler capacity (RawLoads r home sizes subscripts) x =
    load r (raw_place x.state.registers home sizes subscripts) x
act_on filler capacity (RawStores v home sizes subscripts) x =
    store (read x.state.registers v) (raw_place x.state.registers home sizes subscripts) x
act_on filler capacity (Operates r op bits a b) x = carried x (direct_step (Operates r op bits a b) x.state)
act_on filler capacity (Converts r kind from to v) x = carried x (direct_step (Converts r kind from to v) x.state)
act_on filler capacity (Allocates number element sizes) x = allocate filler capacity number element sizes x
act_on filler capacity (Releases number element sizes) x =
    refused (has_away (transfers_of x.flights) number) Touched x (End (record x { live = x.live - bytes_of element sizes }))
act_on filler capacity (AllocatesTags first count) x = End x
act_on filler capacity (ReleasesTags first count) x =
    refused (has_started (transfers_of x.flights) first count) Tag x (End x)
act_on filler capacity (Starts t) x = start t x
act_on filler capacity (Waits tag count) x = wait_on (flight_of x.flights tag) tag count x
act_on filler capacity (Faults k) x = Fault k x
act_on filler capacity Returns x = End x

-- ---- steps

abbrev pub is_free : Option ℕ → Bool
is_free None = true
is_free (Some e) = false

-- all is moved, and no engine holds it any more
abbrev pub is_finished : Flight → Bool
is_finished f = nat_eq f.moved f.transfer.count && is_free f.engine

-- a wait that passes its tests on a transfer that isn't finished
abbrev pub holds_up : Option Flight → ℕ → Bool
holds_up None count = false
holds_up (Some f) count = nat_eq f.transfer.count count && not (is_finished f)

abbrev pub is_held_up : Action → List Flight → Bool
is_held_up (Waits tag count) flights = holds_up (flight_of flights tag) count
is_held_up a flights = false

-- there is a next action, and it isn't held up
abbrev pub CanCompute : List Action → List Flight → Type 0
CanCompute [] flights = ⊥
CanCompute (a ∷ more) flights = is_held_up a flights ≡ false

-- whether this is the engine
abbrev pub is_engine : Option ℕ → ℕ → Bool
is_engine None e = false
is_engine (Some d) e = nat_eq d e

-- the transfer that an engine holds
abbrev pub held_by : List Flight → ℕ → Option Flight
held_by [] e = None
held_by (f ∷ fs) e = if is_engine f.engine e then Some f else held_by fs e

-- nothing of it is moved, and no engine holds it
abbrev pub CanBeTaken : Option Flight → Type 0
CanBeTaken None = ⊥
CanBeTaken (Some f) = (f.engine ≡ None) × (f.moved ≡ 0)

abbrev pub HasMore : Option Flight → Type 0
HasMore None = ⊥
HasMore (Some f) = f.moved < f.transfer.count

abbrev pub HasAll : Option Flight → Type 0
HasAll None = ⊥
HasAll (Some f) = f.moved ≡ f.transfer.count

-- what a step asks for, where there is no verdict
abbrev pub Permitted : Step → Machine → Type 0
Permitted Compute x = CanCompute x.rest x.core.flights
Permitted (Take e t) x = (e < x.engines) × (held_by x.core.flights e ≡ None) × CanBeTaken (flight_of x.core.flights t)
Permitted (Move e) x = (e < x.engines) × HasMore (held_by x.core.flights e)
Permitted (Finish e) x = (e < x.engines) × HasAll (held_by x.core.flights e)

pub record Enabled (s : Step) (x : Machine) : Type 0 where
  pub going : x.verdict ≡ None
  pub permitted : Permitted s x

-- the next element, in its transfer's direction, between slow place and cell
abbrev pub with_next : Option Flight → Core → Core
with_next None x = x
with_next (Some f) x =
    if f.transfer.incoming
    then record x { flights = with_flight x.flights f.transfer.tag (next_in x.state.slow) }
    else record x { state = record x.state { slow = slow_out x.state.slow f }; flights = with_flight x.flights f.transfer.tag next_out }

abbrev pub with_finished : Option Flight → Core → Core
with_finished None x = x
with_finished (Some f) x = record x { flights = with_flight x.flights f.transfer.tag (with_engine None) }

-- what a step of an engine does
abbrev pub engine_step : Step → Core → Core
engine_step Compute x = x
engine_step (Take e t) x = record x { flights = with_flight x.flights t (with_engine (Some e)) }
engine_step (Move e) x = with_next (held_by x.flights e) x
engine_step (Finish e) x = with_finished (held_by x.flights e) x

-- the last action sets the verdict
abbrev pub end_of : List Action → Option Verdict
end_of [] = Some verdict.End
end_of (a ∷ more) = None

-- so does a fault
abbrev pub settled : ℕ → List Action → Outcome Core → Machine
settled engines more (End x) = record { engines = engines; rest = more; core = x; verdict = end_of more }
settled engines more (Fault k x) = record { engines = engines; rest = more; core = x; verdict = Some (verdict.Fault k) }

module _ (filler : ℤ) (capacity : ℕ) where
  -- the next action
  abbrev pub compute_step : List Action → Machine → Machine
  compute_step [] x = x
  compute_step (a ∷ more) x = settled x.engines more (act_on filler capacity a x.core)

  -- what a step does
  unfoldable pub after_step : Step → Machine → Machine
  after_step Compute x = compute_step x.rest x
  after_step (Take e t) x = record x { core = engine_step (Take e t) x.core }
  after_step (Move e) x = record x { core = engine_step (Move e) x.core }
  after_step (Finish e) x = record x { core = engine_step (Finish e) x.core }

-- the first state: nothing is allocated and nothing outstanding
abbrev pub first_machine : ℕ → List Action → Image → Machine
first_machine engines actions m = record {
  engines = engines;
  rest = actions;
  core = record { state = first_state m; live = 0; halves = λ number half. Here []; flights = [] };
  verdict = end_of actions;
}
