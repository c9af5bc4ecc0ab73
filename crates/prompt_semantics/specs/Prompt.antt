-- The prompt meaning: what a module does where each transfer completes at its start.
use Rattle.std.specs.Prelude.{ℕ, suc, ◌+◌, ℤ, pos, Bool, true, false, List, [], Option, Some, None, nat_eq, nat_le, if◌then◌else◌, slice_index_or, slice_set}
use Rattle.affine_ast.specs.declared.name.Name.{Name}
use Rattle.affine_ast.specs.declared.image.Image.{Image}
use Rattle.affine_ast.specs.declared.module.Module.{Module}
use Rattle.affine_ast.specs.declared.types.Element.{Element}
use Rattle.bus_model.specs.declared.step.FaultKind.{FaultKind}
use Rattle.bus_model.specs.declared.step.FaultKind.TheVariants.{Bounds, Touched, Race, Tag, Capacity, Shape}
use Rattle.bus_model.specs.declared.step.Verdict.{Verdict}
use Rattle.bus_model.specs.declared.transfer.Transfer.{Transfer}
use Rattle.direct_meaning.specs.Action.{Place, Slow, Fast, Outside, Action, Known, Sets, Loads, Stores, RawLoads, RawStores, Operates, Converts, Allocates, Releases, AllocatesTags, ReleasesTags, Starts, Waits, Faults, Returns}
use Rattle.direct_meaning.specs.Memory.{module_actions}
use Rattle.direct_meaning.specs.Direct.{Outcome, End, Fault, State, keep, write, read, raw_place, direct_step, folded, first_state, verdict_of, state_of}
use Rattle.prompt_semantics.specs.Device.{Device, bytes_of, put_half, allocated, released, is_away, has_away, is_started, has_started, load_races, store_races, start_races, started, record_of, without}

-- an action of the compute part alone, as the direct meaning has it
abbrev pub carried : Device → Outcome State → Outcome Device
carried y (End s) = End (record y { state = s })
carried y (Fault k s) = Fault k (record y { state = s })

-- a fault that changes nothing where a test is true
abbrev pub refused : {A : Type 0} → Bool → FaultKind → A → Outcome A → Outcome A
refused true k y go = Fault k y
refused false k y go = go

-- a load: `bounds`; in fast memory `touched`; in slow memory `race`
abbrev pub prompt_load : Name → Place → Device → Outcome Device
prompt_load r (Slow place) y = refused (load_races y.outstanding place) Race y (End (record y { state = keep r (slice_index_or y.state.slow place (pos 0)) y.state }))
prompt_load r (Fast number half cell) y = refused (is_away y.outstanding number half) Touched y (End (record y { state = keep r (slice_index_or (y.halves number half) cell (pos 0)) y.state }))
prompt_load r Outside y = Fault Bounds y

-- a store, with the same faults
abbrev pub prompt_store : ℤ → Place → Device → Outcome Device
prompt_store z (Slow place) y = refused (store_races y.outstanding place) Race y (End (record y { state = write place z y.state }))
prompt_store z (Fast number half cell) y = refused (is_away y.outstanding number half) Touched y (End (record y { halves = put_half y.halves number half (slice_set (y.halves number half) cell z) }))
prompt_store z Outside y = Fault Bounds y

-- `capacity` where the live bytes would pass it
abbrev pub prompt_alloc : ℤ → ℕ → ℕ → Element → List ℕ → Device → Outcome Device
prompt_alloc filler capacity number element sizes y =
    if nat_le (y.live + bytes_of element sizes) capacity then End (allocated filler number element sizes y) else Fault Capacity y

-- a start whose static part is right: `tag` where its tag is started already, `touched` where its half is away, `race`
abbrev pub prompt_start : Transfer → Device → Outcome Device
prompt_start t y =
    refused (is_started y.outstanding t.tag) Tag y
    (refused (is_away y.outstanding t.fast t.half) Touched y
    (refused (start_races y.outstanding t) Race y
    (End (started t y))))

-- a wait: `tag` where the tag is idle, `shape` where the count isn't the started one
abbrev pub wait_on : Option Transfer → ℕ → ℕ → Device → Outcome Device
wait_on None tag count y = Fault Tag y
wait_on (Some t) tag count y = if nat_eq t.count count then End (record y { outstanding = without tag y.outstanding }) else Fault Shape y

-- one action
unfoldable pub acts : ℤ → ℕ → Action → Device → Outcome Device
acts filler capacity Known y = carried y (direct_step Known y.state)
acts filler capacity (Sets r z) y = carried y (direct_step (Sets r z) y.state)
acts filler capacity (Loads r place) y = prompt_load r place y
acts filler capacity (Stores x place) y = prompt_store (read y.state.registers x) place y
acts filler capacity (RawLoads r home sizes subscripts) y = prompt_load r (raw_place y.state.registers home sizes subscripts) y
acts filler capacity (RawStores x home sizes subscripts) y = prompt_store (read y.state.registers x) (raw_place y.state.registers home sizes subscripts) y
acts filler capacity (Operates r op bits a b) y = carried y (direct_step (Operates r op bits a b) y.state)
acts filler capacity (Converts r kind from to x) y = carried y (direct_step (Converts r kind from to x) y.state)
acts filler capacity (Allocates number element sizes) y = prompt_alloc filler capacity number element sizes y
acts filler capacity (Releases number element sizes) y = refused (has_away y.outstanding number) Touched y (End (released element sizes y))
acts filler capacity (AllocatesTags first count) y = End y
acts filler capacity (ReleasesTags first count) y = refused (has_started y.outstanding first count) Tag y (End y)
acts filler capacity (Starts t) y = prompt_start t y
acts filler capacity (Waits tag count) y = wait_on (record_of tag y.outstanding) tag count y
acts filler capacity (Faults k) y = Fault k y
acts filler capacity Returns y = End y

-- one action, counted, also where it faults
unfoldable pub prompt_step : ℤ → ℕ → Action → Device → Outcome Device
prompt_step filler capacity a y = acts filler capacity a (record y { actions = suc y.actions })

-- the first state: nothing is allocated and nothing outstanding
abbrev pub first_device : Image → Device
first_device m = record { state = first_state m; halves = λ number half. []; live = 0; outstanding = []; actions = 0; engine_steps = 0; peak = 0 }

-- the prompt meaning of a module from a memory, for a filler and a capacity in bytes
unfoldable pub prompt : Module → Image → ℤ → ℕ → Outcome Device
prompt module_ m filler capacity = folded (prompt_step filler capacity) (module_actions module_ m.symbols) (first_device m)

-- its verdict, its slow list at the end or at the fault, and its three numbers
abbrev pub prompt_verdict : Outcome Device → Verdict
prompt_verdict o = verdict_of o

abbrev pub prompt_slow : Outcome Device → List ℤ
prompt_slow o = (state_of o).state.slow

pub record Numbers : Type 0 where
  pub actions : ℕ
  pub engine_steps : ℕ
  pub peak : ℕ

abbrev pub prompt_numbers : Outcome Device → Numbers
prompt_numbers o = record { actions = (state_of o).actions; engine_steps = (state_of o).engine_steps; peak = (state_of o).peak }
