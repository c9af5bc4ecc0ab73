-- What callers see of a bus and its seats.
use Rattle.std.specs.Prelude.{◌≡◌, ◌≢◌, ◌⊎◌, ℕ, ℤ, ◌+◌, ◌*◌, ◌<◌, ◌≤◌, false, List, [], ◌∷◌, ◌++◌, map, replicate, length, Option, Some, None, MatchOption, slice_set, if◌then◌else◌}
use mir.Syntax.{w64}
use mir.Val.{of_z}
use Rattle.atomic_table.specs.Table.{Me}
use Rattle.atomic_table.specs.Seated.{TableId}
use Rattle.bus_model.specs.declared.transfer.Transfer.{Transfer}
use Rattle.bus_model.specs.declared.transfer.Started.{Started}
use Rattle.bus_model.specs.Places.{slow_place}
use Rattle.bus_model.specs.Copies.{moved_in, moved_out}
use Rattle.tag_table.specs.declared.view.Parcel.{Parcel}
use Rattle.tag_table.specs.declared.view.Work.{Work}
use Rattle.tag_table.specs.declared.view.ComputeView.{ComputeView}
use Rattle.tag_table.specs.declared.view.EngineView.{EngineView}
use Rattle.tag_table.specs.declared.view.View.{View}
use Rattle.tag_table.specs.declared.view.View.TheVariants.{Compute, Engine}
use Rattle.tag_table.specs.Rule.{Slot, FitsIn, job, started_at}

-- a bus: which one it is, how many slow words and how many tags it has
pub record BusShape : Type 0 where
  pub id : TableId
  pub words : ℕ
  pub tags : ℕ

-- the compute seat: its bus, the prompt memory, for each tag none or its started transfer with the list that the prompt
-- half has, and the tags and words that its exchanges met, the first first
pub record ComputeShape : Type 0 where
  pub id : TableId
  pub prompt : List ℤ
  pub tags : List (Option Started)
  pub met : List (ℕ × ℕ)

-- an engine's seat: its bus, its number, the transfer that it holds as it stands, and what its exchanges met
pub record EngineShape : Type 0 where
  pub id : TableId
  pub number : ℕ
  pub work : Option Work
  pub met : List (ℕ × ℕ)

-- What the calls change.

-- one more exchange has met a word
abbrev pub compute_met : ComputeShape → ℕ → ℕ → ComputeShape
compute_met s tag word = record { id = s.id; prompt = s.prompt; tags = s.tags; met = s.met ++ (tag, word) ∷ [] }

abbrev pub engine_met : EngineShape → ℕ → ℕ → EngineShape
engine_met s tag word = record { id = s.id; number = s.number; work = s.work; met = s.met ++ (tag, word) ∷ [] }

-- a slow word of the prompt memory is stored
abbrev pub with_word : ComputeShape → ℕ → ℤ → ComputeShape
with_word s i z = record { id = s.id; prompt = slice_set s.prompt i z; tags = s.tags; met = s.met }

-- a tag is started with a list, or idle
abbrev pub with_tag : ComputeShape → ℕ → Option Started → ComputeShape
with_tag s tag st = record { id = s.id; prompt = s.prompt; tags = slice_set s.tags tag st; met = s.met }

abbrev pub with_prompt : ComputeShape → List ℤ → ComputeShape
with_prompt s prompt = record { id = s.id; prompt = prompt; tags = s.tags; met = s.met }

-- a start copies all elements at once, in the transfer's direction
abbrev pub after_start : ComputeShape → ℕ → Transfer → List ℤ → ComputeShape
after_start s tag x cells =
    if x.incoming then with_tag s tag (Some record { transfer = x; list = moved_in x s.prompt cells })
    else with_prompt (with_tag s tag (Some record { transfer = x; list = cells })) (moved_out x cells s.prompt)

-- an engine holds a transfer, or none
abbrev pub with_work : EngineShape → Option Work → EngineShape
with_work s work = record { id = s.id; number = s.number; work = work; met = s.met }

-- the next element is moved: of an incoming transfer its cell becomes z
abbrev pub after_move : Work → ℤ → Work
after_move w z = job w.tag w.transfer (if w.transfer.incoming then slice_set w.cells (w.transfer.offset + w.moved) z else w.cells) (w.moved + 1)

-- What the calls ask.

-- no tag is started
abbrev pub NoneStarted : ComputeShape → Type 0
NoneStarted s = (t : ℕ) → started_at s.tags t ≡ None

-- a parcel may be started: nothing is moved, the elements are whole chunks, no chunk reaches into the next, all lie within
-- the slow words and the cells, and none at a place of a started transfer where one of the two is outgoing
pub record MayStart (n : ℕ) (tags : List (Option Started)) (tag : ℕ) (p : Parcel) : Type 0 where
  pub idle : started_at tags tag ≡ None
  pub named : p.transfer.tag ≡ tag
  pub unmoved : p.moved ≡ 0
  pub some_count : 1 ≤ p.transfer.count
  pub whole_chunks : (k : ℕ) × (p.transfer.count ≡ k * p.transfer.chunk)
  pub wide : p.transfer.chunk ≤ p.transfer.stride
  pub some_chunk : 1 ≤ p.transfer.chunk
  pub within : (e : ℕ) → e < p.transfer.count → slow_place p.transfer e < n
  pub inside : p.transfer.offset + p.transfer.count ≤ length p.cells.items
  pub clear : (u e f : ℕ) (b : Started) → started_at tags u ≡ Some b → (p.transfer.incoming ≡ false) ⊎ (b.transfer.incoming ≡ false) → e < p.transfer.count → f < b.transfer.count → slow_place p.transfer e ≢ slow_place b.transfer f

-- an engine's seat of this bus that is idle
abbrev pub IsIdle : TableId → EngineShape → Type 0
IsIdle id e = (e.id ≡ id) × (e.work ≡ None)

-- the seats at the start
abbrev pub fresh_compute : TableId → List ℤ → ℕ → ComputeShape
fresh_compute id words tags = record { id = id; prompt = words; tags = replicate tags None; met = [] }

abbrev pub fresh_engine : TableId → ℕ → EngineShape
fresh_engine id number = record { id = id; number = number; work = None; met = [] }

-- How the seats hold what callers see.

abbrev pub compute_of : View → ComputeView
compute_of (Compute v) = v
compute_of (Engine e) = record { prompt = []; held = None; tags = []; met = []; engines = 0 }

abbrev pub engine_of : View → EngineView
engine_of (Engine e) = e
engine_of (Compute v) = record { words = 0; number = 0; work = None; met = [] }

abbrev pub seen_compute : TableId → ComputeView → ComputeShape
seen_compute id v = record { id = id; prompt = v.prompt; tags = v.tags; met = v.met }

abbrev pub seen_engine : TableId → EngineView → EngineShape
seen_engine id e = record { id = id; number = e.number; work = e.work; met = e.met }

abbrev pub carried_of : Option (ℕ × Parcel) → List (ℕ × Slot)
carried_of None = []
carried_of (Some h) = (h.0, None) ∷ []

abbrev pub work_of : Option (ℕ × Parcel) → Option Work
work_of None = None
work_of (Some h) = Some (job h.0 h.1.transfer h.1.cells.items h.1.moved)

abbrev pub IsComputeMe : Me Slot View → Type 0
IsComputeMe m = (m ≡ (Compute (compute_of m.0), [])) × ((compute_of m.0).held ≡ None)

abbrev pub IsEngineMe : Me Slot View → Option (ℕ × Parcel) → Type 0
IsEngineMe m held = (m ≡ (Engine (engine_of m.0), carried_of held)) × ((engine_of m.0).work ≡ work_of held)

-- the engine knows the number of slow words, and its work lies within them and within its cells
abbrev pub IsFitting : TableId → EngineView → Type 0
IsFitting id e = (id.slots + e.words + 1 ≡ id.words) × MatchOption e.work (Unit {0}) (λ w. (w.tag < id.slots) × FitsIn e.words w.transfer w.cells)

-- the words at the start: the tags' words, all free, the slow words, and one to spare
abbrev pub row_of : List ℤ → ℕ → List ℕ
row_of words tags = replicate tags 0 ++ map (of_z w64) words ++ 0 ∷ []
