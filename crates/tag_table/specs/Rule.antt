-- The rule of the bus: how the words, the slots and what each seat knows belong together, between any two atomic steps.
-- The word t is that of the tag t, the slow words follow, and one more word, which no step reads but where a seat is split.
use Rattle.std.specs.Prelude.{◌≡◌, ◌≢◌, ◌⊎◌, ℕ, ℤ, ◌+◌, ◌<◌, ◌≤◌, false, List, [], length, replicate, Option, Some, None, slice_index, slice_index_or}
use mathlib.Core.Option.{some}
use mathlib.Core.Option as maybe
use mir.Syntax.{w64}
use mir.Val.{to_z}
use lib.ListN.{get_elem?}
use Rattle.atomic_table.specs.Table.{State}
use Rattle.atomic_table.specs.Seated.{TableId}
use Rattle.bus_model.specs.declared.transfer.Transfer.{Transfer}
use Rattle.bus_model.specs.declared.transfer.Started.{Started}
use Rattle.bus_model.specs.Places.{slow_place}
use Rattle.bus_model.specs.Copies.{number_at}
use Rattle.bus_model.specs.Ledger.{Progress, Ledger}
use Rattle.tag_table.specs.declared.view.Layout.{Layout}
use Rattle.tag_table.specs.declared.view.Parcel.{Parcel}
use Rattle.tag_table.specs.declared.view.Work.{Work}
use Rattle.tag_table.specs.declared.view.ComputeView.{ComputeView}
use Rattle.tag_table.specs.declared.view.EngineView.{EngineView}
use Rattle.tag_table.specs.declared.view.View.{View}
use Rattle.tag_table.specs.declared.view.View.TheVariants.{Compute, Engine}

-- the started transfer of a tag
abbrev pub started_at : List (Option Started) → ℕ → Option Started
started_at l t = slice_index_or l t None

abbrev pub Slot : Type 0
Slot = Option Parcel

-- a slot as the table has it: at home with its value, or out with a seat
abbrev pub Home : Type 0
Home = maybe.Option (maybe.Option Slot)

-- what a tag's word stands for; a tag that is taken names the seat
pub data Phase : Type 0 where
  free : Phase
  held : Phase
  ready : Phase
  taken : ℕ → Phase
  done : Phase

-- a tag's phase, and how far its transfer is
pub record TagState : Type 0 where
  pub phase : Phase
  pub moved : ℕ
  pub cells : List ℤ

abbrev pub progress_of : (ℕ → TagState) → ℕ → Progress
progress_of state t = record { moved = (state t).moved; cells = (state t).cells }

abbrev pub job : ℕ → Transfer → List ℤ → ℕ → Work
job t x cells moved = record { tag = t; transfer = x; cells = cells; moved = moved }

-- the parcel is home, as it stands
abbrev pub IsHome : Home → Transfer → List ℤ → ℕ → Type 0
IsHome home x cells moved = (p : Parcel) × (home ≡ some (some (Some p))) × (p.transfer ≡ x) × (p.cells.items ≡ cells) × (p.moved ≡ moved)

-- Free: the tag is idle and its slot is home and empty. Held: the tag is idle and the compute view holds its slot. Ready:
-- the tag is started, and its parcel is home with nothing moved. Taken: the tag is started, and the view of one engine has
-- its transfer as it stands. Done: the tag is started, and its parcel is home with all elements moved
module _ (views : List View) (holder : Option ℕ) (t word : ℕ) (home : Home) (has : Option Started) (cells : List ℤ) (moved : ℕ) where
  abbrev pub InPhase : Phase → Type 0
  InPhase free = (word ≡ 0) × (has ≡ None) × (home ≡ some (some None))
  InPhase held = (word ≡ 4) × (has ≡ None) × (holder ≡ Some t)
  InPhase ready = (word ≡ 1) × ((st : Started) × (has ≡ Some st) × (moved ≡ 0) × IsHome home st.transfer cells moved)
  InPhase (taken j) = (word ≡ 2) × ((st : Started) × (has ≡ Some st) × ((e : EngineView) × (get_elem? views j ≡ some (Engine e)) × (e.work ≡ Some (job t st.transfer cells moved))))
  InPhase done = (word ≡ 3) × ((st : Started) × (has ≡ Some st) × (moved ≡ st.transfer.count) × IsHome home st.transfer cells moved)

-- the slow word i
abbrev pub slow_at : ℕ → List ℕ → ℕ → ℤ
slow_at count words i = to_z w64 (slice_index words (count + i))

-- the rule, for n slow words and so many tags
module _ (n count : ℕ) (s : State Slot View) where
  abbrev pub TagOk : ComputeView → ℕ → TagState → Type 0
  TagOk me t x = InPhase s.views me.held t (slice_index s.words t) (get_elem? s.homes t) (started_at me.tags t) x.cells x.moved x.phase

  pub record BusOk : Type 0 where
    pub sized : count + n ≤ length s.words
    pub slots : length s.homes ≡ count
    -- there is one compute seat
    pub seat : ℕ
    pub me : ComputeView
    pub there : get_elem? s.views seat ≡ some (Compute me)
    pub only : (j : ℕ) (u : ComputeView) → get_elem? s.views j ≡ some (Compute u) → j ≡ seat
    pub tagged : length me.tags ≡ count
    pub long : length me.prompt ≡ n
    -- each tag is in its phase, the slot that the compute view holds is that of a held tag, and an engine that has a tag
    -- is the one that its phase names: so no two views have one tag
    pub state : ℕ → TagState
    pub each : (t : ℕ) → t < count → TagOk me t (state t)
    pub holds : (t : ℕ) → me.held ≡ Some t → (t < count) × ((state t).phase ≡ held)
    pub engines : (j : ℕ) (e : EngineView) (w : Work) → get_elem? s.views j ≡ some (Engine e) → e.work ≡ Some w → (w.tag < count) × ((state w.tag).phase ≡ taken j)
    pub sizes : (j : ℕ) (e : EngineView) → get_elem? s.views j ≡ some (Engine e) → e.words ≡ n
    -- the slow words agree with the prompt memory
    pub ledger : Ledger n (slow_at count s.words) (number_at me.prompt) (started_at me.tags) (progress_of state)

-- the compute view at the start
abbrev pub fresh : List ℤ → ℕ → ComputeView
fresh words tags = record { prompt = words; held = None; tags = replicate tags None; met = []; engines = 0 }

-- the table has a word and a slot for each tag, the slow words and the one to spare
abbrev pub Sized : TableId → Layout → ℕ → Type 0
Sized z key tags = (tags + length key.prompt.items + 1 ≡ z.words) × (z.slots ≡ tags) × (key.tags ≡ tags)

-- what an engine has to know of a transfer among n slow words
pub record FitsIn (n : ℕ) (x : Transfer) (cells : List ℤ) : Type 0 where
  pub within : (e : ℕ) → e < x.count → slow_place x e < n
  pub inside : x.offset + x.count ≤ length cells
  pub some_chunk : 1 ≤ x.chunk

-- no started outgoing transfer has an element at the slow place i
abbrev pub ClearOfOut : List (Option Started) → ℕ → Type 0
ClearOfOut tags i = (t e : ℕ) (st : Started) → started_at tags t ≡ Some st → st.transfer.incoming ≡ false → e < st.transfer.count → slow_place st.transfer e ≢ i

-- no started transfer has
abbrev pub ClearOfAll : List (Option Started) → ℕ → Type 0
ClearOfAll tags i = (t e : ℕ) (st : Started) → started_at tags t ≡ Some st → e < st.transfer.count → slow_place st.transfer e ≢ i

-- what the rule asks of a parcel that is started
pub record MayGo (n : ℕ) (tags : List (Option Started)) (p : Parcel) : Type 0 where
  pub fresh : p.moved ≡ 0
  pub within : (e : ℕ) → e < p.transfer.count → slow_place p.transfer e < n
  pub distinct : (e f : ℕ) → e < p.transfer.count → f < p.transfer.count → slow_place p.transfer e ≡ slow_place p.transfer f → e ≡ f
  pub inside : p.transfer.offset + p.transfer.count ≤ length p.cells.items
  pub some_chunk : 1 ≤ p.transfer.chunk
  pub clear : (u e f : ℕ) (b : Started) → started_at tags u ≡ Some b → (p.transfer.incoming ≡ false) ⊎ (b.transfer.incoming ≡ false) → e < p.transfer.count → f < b.transfer.count → slow_place p.transfer e ≢ slow_place b.transfer f
