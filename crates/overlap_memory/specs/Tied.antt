-- How the compute thread's memory, beside a bus whose transfers are under way, stands for a state of the prompt
-- meaning.
use Rattle.std.specs.Prelude.{vec_capacity, ◌≡◌, ℕ, ℤ, ◌+◌, ◌*◌, ◌<◌, ◌≤◌, ◌^◌, List, [], ◌∷◌, map, length}
use Rattle.std.specs.Prelude.{Option, Some, None, Result, Ok, Err, slice_get, slice_index_or}
use Rattle.std.specs.List.{All}
use Rattle.affine_ast.specs.declared.name.Name.{Name}
use Rattle.bus_model.specs.declared.step.FaultKind.{FaultKind}
use Rattle.bus_model.specs.declared.transfer.Transfer.{Transfer}
use Rattle.bus_model.specs.declared.transfer.Started.{Started}
use Rattle.bus_model.specs.Places.{slow_place}
use Rattle.bus_model.specs.Ledger.{HalvesAway}
use Rattle.bus_model.specs.Engines.{started_of}
use Rattle.tag_table.specs.Rule.{started_at}
use Rattle.tag_table.specs.Shapes.{BusShape, IsIdle}
use Rattle.fast_halves.specs.Shape.{HalfShape, HalvesShape, here, away}
use Rattle.direct_meaning.specs.Action.{Place}
use Rattle.direct_meaning.specs.Direct.{Outcome, End, Fault, keep}
use Rattle.prompt_semantics.specs.Device.{Device, record_of}
use Rattle.prompt_semantics.specs.Prompt.{prompt_load}
use Rattle.order_meaning.specs.Orderly.{Rooms, with_room}
use Rattle.overlap_memory.specs.declared.memory.Memory.{Memory}

-- ---- the halves

abbrev pub no_halves : HalvesShape
no_halves = record { cells = 0; halves = [] }

abbrev pub memref_at : List HalvesShape → ℕ → HalvesShape
memref_at hs number = slice_index_or hs number no_halves

abbrev pub half_at : List HalvesShape → ℕ → ℕ → Option HalfShape
half_at hs number half = slice_get (memref_at hs number).halves half

abbrev pub tag_of : Option HalfShape → Option ℕ
tag_of None = None
tag_of (Some (here cells)) = None
tag_of (Some (away tag)) = Some tag

-- the fast memrefs of a text: how many, the cells and the halves of each, and the cells of a half of those that are
-- allocated now
pub record FastShape : Type 0 where
  pub count : ℕ
  pub cells : ℕ → ℕ
  pub halves : ℕ → ℕ
  pub rooms : Rooms

abbrev pub with_allocated : FastShape → ℕ → FastShape
with_allocated shape number = record shape { rooms = with_room shape.rooms number (Some (shape.cells number)) }

abbrev pub with_released : FastShape → ℕ → FastShape
with_released shape number = record shape { rooms = with_room shape.rooms number None }

abbrev pub IsAllocated : FastShape → ℕ → Type 0
IsAllocated shape number = shape.rooms number ≡ Some (shape.cells number)

-- the prompt half has the memref's cells, as each has from the memref's first allocation on
abbrev pub HasCells : FastShape → Device → ℕ → ℕ → Type 0
HasCells shape y number half = length (y.halves number half) ≡ shape.cells number

-- ---- the outstanding transfers

-- a transfer on record, with the list that its half has where it was copied at its start
abbrev pub with_list : (ℕ → ℕ → List ℤ) → Transfer → Started
with_list halves t = record { transfer = t; list = halves t.fast t.half }

abbrev pub lists_of : (ℕ → ℕ → List ℤ) → List Transfer → List Started
lists_of halves ts = map (with_list halves) ts

-- no tag is that of two transfers
abbrev pub TagsApart : List Transfer → Type 0
TagsApart [] = Unit {0}
TagsApart (t ∷ ts) = (record_of t.tag ts ≡ None) × TagsApart ts

-- its places can be computed and lie within so many words
pub record IsPlaced (words : ℕ) (t : Transfer) : Type 0 where
  pub some_chunk : 1 ≤ t.chunk
  pub within : (e : ℕ) → e < t.count → slow_place t e < words

-- how many tags are started
abbrev pub one_if_started : Option Started → ℕ
one_if_started None = 0
one_if_started (Some st) = 1

abbrev pub how_many : List (Option Started) → ℕ
how_many [] = 0
how_many (o ∷ os) = one_if_started o + how_many os

-- ---- the tie

pub record Tied (bus : BusShape) (shape : FastShape) (x : Memory) (y : Device) : Type 0 where
  -- the seats are those of the bus, and engine 0 is idle between two actions
  pub seat : x.seat.id ≡ bus.id
  pub helper : IsIdle bus.id x.helper
  pub tagged : length x.seat.tags ≡ bus.tags
  pub small : bus.words < 2 ^ 32
  pub sized : bus.words ≡ length x.seat.prompt
  -- the prompt words of the seat are the slow list; the records are the outstanding transfers in the order of their
  -- starts
  pub slow : x.seat.prompt ≡ y.state.slow
  pub records : x.records.items ≡ y.outstanding
  -- a tag is started with its record's transfer and the prompt half
  pub tags : (tag : ℕ) → started_at x.seat.tags tag ≡ started_of (lists_of y.halves y.outstanding) tag
  pub tags_apart : TagsApart y.outstanding
  pub placed : All (IsPlaced bus.words) y.outstanding
  -- the fast memrefs are those of the text
  pub memrefs : length x.halves.items ≡ shape.count
  pub cells : (number : ℕ) → (memref_at x.halves.items number).cells ≡ shape.cells number
  pub halves : (number : ℕ) → length (memref_at x.halves.items number).halves ≡ shape.halves number
  -- a half that is here is the prompt one, from its memref's first allocation on; a half is away exactly where an
  -- outstanding transfer names it
  pub here : (number half : ℕ) (cells : List ℤ) → HasCells shape y number half
      → half_at x.halves.items number half ≡ Some (here cells) → cells ≡ y.halves number half
  pub away : HalvesAway (λ number half. tag_of (half_at x.halves.items number half))
      (started_of (lists_of y.halves y.outstanding))
  -- the memref of an outstanding transfer is allocated
  pub allocated : (tag : ℕ) (t : Transfer) → record_of tag y.outstanding ≡ Some t → IsAllocated shape t.fast
  pub rooms : (tag : ℕ) (t : Transfer) → record_of tag y.outstanding ≡ Some t
      → length (y.halves t.fast t.half) ≡ (memref_at x.halves.items t.fast).cells
  pub live : x.live ≡ y.live
  -- there is room for a record of each tag
  pub counted : length y.outstanding ≡ how_many x.seat.tags
  pub room : bus.tags ≤ vec_capacity x.records

-- ---- what the code answers, against an outcome of the prompt meaning

-- an action is done, or is that fault, and the memory is then tied to the outcome's state. What is allocated is then as
-- it was, or, where the action is done, as this says
abbrev pub FollowsTo : BusShape → FastShape → FastShape → Result (Unit {0}) FaultKind → Outcome Device → Memory → Type 0
FollowsTo bus before after (Ok done) outcome x = (y : Device) × (outcome ≡ End y) × Tied bus after x y
FollowsTo bus before after (Err kind) outcome x = (y : Device) × (outcome ≡ Fault kind y) × Tied bus before x y

abbrev pub Follows : BusShape → FastShape → Result (Unit {0}) FaultKind → Outcome Device → Memory → Type 0
Follows bus shape result outcome x = FollowsTo bus shape shape result outcome x

-- a load gives its number to whatever name it has
abbrev pub Gives : Result ℤ FaultKind → Place → Device → Type 0
Gives (Ok z) place y = (r : Name) → prompt_load r place y ≡ End (record y { state = keep r z y.state })
Gives (Err kind) place y = (r : Name) → prompt_load r place y ≡ Fault kind y

-- ---- what is known of an action before the run

pub record CanStart (bus : BusShape) (x : Memory) (t : Transfer) : Type 0 where
  pub tag : t.tag < bus.tags
  pub fast : t.fast < length x.halves.items
  pub half : t.half < length (memref_at x.halves.items t.fast).halves
  pub inside : t.offset + t.count ≤ (memref_at x.halves.items t.fast).cells
  pub some_count : 1 ≤ t.count
  pub some_chunk : 1 ≤ t.chunk
  pub wide : t.chunk ≤ t.stride
  pub whole_chunks : (k : ℕ) × (t.count ≡ k * t.chunk)
  pub within : (e : ℕ) → e < t.count → slow_place t e < bus.words
