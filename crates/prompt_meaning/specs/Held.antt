-- What the memories of a run hold, as the state of the prompt meaning.
use Rattle.std.specs.Prelude.{◌≡◌, ℕ, ◌+◌, ◌<◌, ◌≤◌, ◌^◌, ℤ, List, length, vec_capacity}
use Rattle.bus_model.specs.declared.transfer.Transfer.{Transfer}
use Rattle.bus_model.specs.Places.{slow_place}
use Rattle.direct_meaning.specs.Action.{Place, Slow, Fast, Outside, Action}
use Rattle.prompt_semantics.specs.Device as model
use Rattle.run_parts.specs.Registered.{values_of}
use Rattle.prompt_laws.specs.Costs.{cost}
use Rattle.prompt_laws.specs.Reaches.{Reaches, FlightsFit}
use Rattle.prompt_laws.specs.Rooms.{Room, room_at}
use Rattle.prompt_meaning.specs.declared.device.Device.{Device}
use Rattle.prompt_meaning.specs.declared.fast.FastMemref.{FastMemref}
use Rattle.prompt_meaning.specs.Memrefs.{halves_at, CellIn, AreRooms}

abbrev pub device_at : Device → model.Device
device_at d = record {
  state = record { registers = values_of d.registers; slow = d.slow.items };
  halves = halves_at d.fasts.items;
  live = d.live;
  outstanding = d.outstanding.items;
  actions = d.actions;
  engine_steps = d.engine_steps;
  peak = d.peak;
}

-- two states that differ at most in halves that aren't there: those that no memref of these rooms has, or that weren't allocated yet
pub record Agrees (rooms : List Room) (y z : model.Device) : Type 0 where
  pub rest : z ≡ record y { halves = z.halves }
  pub halves : (number h : ℕ) → number < length rooms → h < (room_at rooms number).halves → length (y.halves number h) ≡ (room_at rooms number).cells → y.halves number h ≡ z.halves number h

-- ---- what an effect reaches

abbrev pub PlaceReached : List ℤ → List FastMemref → Place → Type 0
PlaceReached slow fasts (Slow place) = place < length slow
PlaceReached slow fasts (Fast number half cell) = CellIn fasts number half cell
PlaceReached slow fasts Outside = Unit {0}

-- the elements of a transfer, in both memories
pub record TransferReached (slow : ℕ) (t : Transfer) (fasts : List FastMemref) : Type 0 where
  pub there : t.fast < length fasts
  pub cells : (c : ℕ) → c < t.count → CellIn fasts t.fast t.half (t.offset + c)
  pub some_chunk : 1 ≤ t.chunk
  pub places : (e : ℕ) → e < t.count → slow_place t e < slow
  pub places_fit : (e : ℕ) → e < t.count → slow_place t e < 1048576

-- the memories have what an action reaches, the numbers of the run have room for it, and so have the records
pub record Reached (d : Device) (a : Action) : Type 0 where
  pub rooms : List Room
  pub are : AreRooms rooms d.fasts.items
  pub reaches : Reaches rooms a (device_at d)
  pub live : d.live ≤ d.capacity
  pub flights : FlightsFit (length d.slow.items) d.outstanding.items
  pub steps : d.actions + d.engine_steps + cost a ≤ 2 ^ 61
  pub records : 65536 ≤ vec_capacity d.outstanding

-- the same names, as much memory
pub record Same (old new : Device) : Type 0 where
  pub names : new.registers.names ≡ old.registers.names
  pub slow : length new.slow.items ≡ length old.slow.items
  pub filler : new.filler ≡ old.filler
  pub capacity : new.capacity ≡ old.capacity
  pub records : vec_capacity new.outstanding ≡ vec_capacity old.outstanding
