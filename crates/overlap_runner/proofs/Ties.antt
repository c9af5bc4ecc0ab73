-- What the tie and the text say of the places of an action.
use Rattle.std.proofs.Common.{◌≡◌, ℕ, ◌+◌, ◌*◌, ◌/◌, ◌%◌, ◌<◌, ℤ, List, length, sym, ap, ◌∙◌, arith}
use Rattle.std.proofs.lemmas.Nat.{div-add-mod'}
use Rattle.affine_ast.specs.declared.name.Name.{Name}
use Rattle.affine_ast.specs.declared.types.Element.{Element}
use Rattle.bus_model.specs.declared.transfer.Transfer.{Transfer}
use Rattle.bus_model.specs.Places.{slow_place}
use Rattle.direct_meaning.specs.Action.{Slow, Fast}
use Rattle.direct_meaning.specs.Actions.{half_cells}
use Rattle.prompt_semantics.specs.Device as model
use Rattle.prompt_laws.specs.Reaches.{HalfIn, StartIn, AllocIn}
use Rattle.prompt_laws.specs.Rooms.{Room, room_at}
use Rattle.tag_table.specs.Shapes.{BusShape}
use Rattle.overlap_memory.specs.declared.memory.Memory.{Memory}
use Rattle.overlap_memory.specs.Tied.{Tied, FastShape, HasCells, CanStart, memref_at}
use Rattle.transfer_laws.specs.Law.{FitsBus}
use Rattle.overlap_runner.specs.Held.{PlaceReached}
use Rattle.overlap_runner.specs.Rooms.{AreRooms}

-- the tie reads nothing of a state but its slow list, its halves, its live bytes and what is outstanding
pub retied : (bus : BusShape) (shape : FastShape) (x : Memory) (y : model.Device) (registers : Name → ℤ) (actions : ℕ) → Tied bus shape x y
    → Tied bus shape x (record y { state = record y.state { registers = registers }; actions = actions })
retied bus shape x y registers actions t = record {
  seat = t.seat;
  helper = t.helper;
  tagged = t.tagged;
  small = t.small;
  sized = t.sized;
  slow = t.slow;
  records = t.records;
  tags = t.tags;
  tags_apart = t.tags_apart;
  placed = t.placed;
  memrefs = t.memrefs;
  cells = t.cells;
  halves = t.halves;
  here = t.here;
  away = t.away;
  allocated = t.allocated;
  rooms = t.rooms;
  live = t.live;
  counted = t.counted;
  room = t.room;
}

nothing_left : (a b c : ℕ) → a + b ≡ c → b ≡ 0 → c ≡ a
nothing_left a b c e none = omega (arith, e, none)

-- a count is so many chunks
whole : (count chunk : ℕ) → count % chunk ≡ 0 → (k : ℕ) × (count ≡ k * chunk)
whole count chunk none = (count / chunk, nothing_left (count / chunk * chunk) (count % chunk) count (div-add-mod' count chunk) none)

module _ (bus : BusShape) (rooms : List Room) (shape : FastShape) (x : Memory) (y : model.Device) (tied : Tied bus shape x y) (are : AreRooms rooms shape) where
  slow_words : length y.state.slow ≡ bus.words
  slow_words = ap (λ l. length l) (sym tied.slow) ∙ sym tied.sized

  pub word_inside : (place : ℕ) → place < length y.state.slow → place < bus.words
  word_inside place lt = let e = slow_words in omega (arith, lt, e)

  pub memref_inside : (number : ℕ) → number < length rooms → number < length x.halves.items
  memref_inside number lt = let e = tied.memrefs in let c = are.count in omega (arith, lt, e, c)

  pub half_inside : (number half : ℕ) → half < (room_at rooms number).halves → half < length (memref_at x.halves.items number).halves
  half_inside number half lt = let e = tied.halves number in let c = are.halves number in omega (arith, lt, e, c)

  pub cells_are : (number : ℕ) → (memref_at x.halves.items number).cells ≡ (room_at rooms number).cells
  cells_are number = tied.cells number ∙ are.cells number

  pub has_cells : (number half : ℕ) → HalfIn rooms y.halves number half → HasCells shape y number half
  has_cells number half h = h.long ∙ sym (are.cells number)

  pub can_start : (t : Transfer) → StartIn rooms y t → FitsBus bus.tags t → CanStart bus x t
  can_start t s f = record {
    tag = f.tag;
    fast = memref_inside t.fast s.half.there;
    half = half_inside t.fast t.half s.half.half_there;
    inside = let i = s.inside in let c = cells_are t.fast in omega (arith, i, c);
    some_count = s.some;
    some_chunk = s.some_chunk;
    wide = s.apart;
    whole_chunks = whole t.count t.chunk f.whole_chunks;
    within = λ e lt. word_inside (slow_place t e) (s.places e lt);
  }

  pub half_of : (number : ℕ) (element : Element) (sizes : List ℕ) → AllocIn rooms number element sizes → shape.cells number ≡ half_cells sizes
  half_of number element sizes a = are.cells number ∙ ap (λ (r : Room). r.cells) a.room

-- a place by its kind
module _ (bus : BusShape) (rooms : List Room) (shape : FastShape) (x : Memory) (y : model.Device) where
  pub slow_reached : (place : ℕ) → PlaceReached bus rooms shape x y (Slow place) → place < bus.words
  slow_reached place r = word_inside bus rooms shape x y r.tied r.are place r.inside

  pub fast_reached : (number half cell : ℕ) → PlaceReached bus rooms shape x y (Fast number half cell)
      → (number < length x.halves.items) × (half < length (memref_at x.halves.items number).halves) × (cell < (memref_at x.halves.items number).cells)
  fast_reached number half cell r = (
    memref_inside bus rooms shape x y r.tied r.are number r.inside.0.there,
    half_inside bus rooms shape x y r.tied r.are number half r.inside.0.half_there,
    (let c = cells_are bus rooms shape x y r.tied r.are number in let l = r.inside.1 in omega (arith, c, l)),
  )

  pub fast_has : (number half cell : ℕ) → PlaceReached bus rooms shape x y (Fast number half cell) → HasCells shape y number half
  fast_has number half cell r = has_cells bus rooms shape x y r.tied r.are number half r.inside.0
