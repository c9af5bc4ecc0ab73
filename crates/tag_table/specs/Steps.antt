-- What each atomic step tells its thread, and what it changes in that thread's view.
use Rattle.std.specs.Prelude.{◌≡◌, ◌≢◌, ℕ, ℤ, ◌+◌, true, false, List, [], ◌∷◌, ◌++◌, length, Option, Some, None, slice_set}
use mir.Syntax.{w64}
use mir.Val.{to_z}
use Rattle.atomic_table.specs.Table.{Me, Step, rest}
use Rattle.bus_model.specs.declared.transfer.Transfer.{Transfer}
use Rattle.bus_model.specs.declared.transfer.Started.{Started}
use Rattle.bus_model.specs.Copies.{number_at, moved_in, moved_out}
use Rattle.tag_table.specs.declared.view.Parcel.{Parcel}
use Rattle.tag_table.specs.declared.view.Work.{Work}
use Rattle.tag_table.specs.declared.view.ComputeView.{ComputeView}
use Rattle.tag_table.specs.declared.view.EngineView.{EngineView}
use Rattle.tag_table.specs.declared.view.View.{View}
use Rattle.tag_table.specs.declared.view.View.TheVariants.{Compute, Engine}
use Rattle.tag_table.specs.Rule.{Slot, started_at, job, FitsIn}

-- The number of slots is the number of tags.

-- a load of a slow word that no outgoing transfer meets gives the prompt word
abbrev pub saw_slow : Step Slot → Me Slot View → ℕ → Me Slot View → Type 0
saw_slow s m found m' = (m' ≡ m) × ((v : ComputeView) (i : ℕ) → m.0 ≡ Compute v → s.word ≡ s.slots + i → to_z w64 found ≡ number_at v.prompt i)

abbrev pub met_more : EngineView → Option Work → ℕ → ℕ → View
met_more e work t found = Engine record { words = e.words; number = e.number; work = work; met = e.met ++ (t, found) ∷ [] }

abbrev pub working : EngineView → Option Work → View
working e work = Engine record { words = e.words; number = e.number; work = work; met = e.met }

-- READY exchanged for TAKEN: where the word was 1, the parcel was taken
abbrev pub took : Step Slot → Me Slot View → ℕ → Me Slot View → Type 0
took s m found m' = (e : EngineView) → m.0 ≡ Engine e →
    (found ≡ 1 → (p : Parcel) × (m'.0 ≡ met_more e (Some (job s.word p.transfer p.cells.items p.moved)) s.word 1) × (m'.1 ≡ (s.word, Some p) ∷ m.1) × (p.moved ≡ 0) × FitsIn e.words p.transfer p.cells.items)
    × (found ≢ 1 → (m'.0 ≡ met_more e None s.word found) × (m'.1 ≡ m.1))

-- DONE stored: the engine is idle
abbrev pub gave : Step Slot → Me Slot View → ℕ → Me Slot View → Type 0
gave s m new m' = (e : EngineView) → m.0 ≡ Engine e → (m'.0 ≡ working e None) × (m'.1 ≡ rest m.1)

-- a load by an engine: the word has become the next cell
abbrev pub moved_one_in : Step Slot → Me Slot View → ℕ → Me Slot View → Type 0
moved_one_in s m found m' = (e : EngineView) (w : Work) → m.0 ≡ Engine e → e.work ≡ Some w →
    (m'.0 ≡ working e (Some (job w.tag w.transfer (slice_set w.cells (w.transfer.offset + w.moved) (to_z w64 found)) (w.moved + 1)))) × (m'.1 ≡ m.1)

-- a store by an engine
abbrev pub moved_one_out : Step Slot → Me Slot View → ℕ → Me Slot View → Type 0
moved_one_out s m new m' = (e : EngineView) (w : Work) → m.0 ≡ Engine e → e.work ≡ Some w → (m'.0 ≡ working e (Some (job w.tag w.transfer w.cells (w.moved + 1)))) × (m'.1 ≡ m.1)

-- the view after a start of the parcel in the tag t
abbrev pub start_in : ComputeView → ℕ → Transfer → List ℤ → View
start_in v t x cells = Compute record { prompt = v.prompt; held = None; tags = slice_set v.tags t (Some record { transfer = x; list = moved_in x v.prompt cells }); met = v.met; engines = v.engines }

abbrev pub start_out : ComputeView → ℕ → Transfer → List ℤ → View
start_out v t x cells = Compute record { prompt = moved_out x cells v.prompt; held = None; tags = slice_set v.tags t (Some record { transfer = x; list = cells }); met = v.met; engines = v.engines }

abbrev pub holding : ComputeView → Option ℕ → View
holding v t = Compute record { prompt = v.prompt; held = t; tags = v.tags; met = v.met; engines = v.engines }

abbrev pub stored : ComputeView → ℕ → ℤ → View
stored v i z = Compute record { prompt = slice_set v.prompt i z; held = v.held; tags = v.tags; met = v.met; engines = v.engines }

-- the view after an exchange of DONE for HELD
abbrev pub collected : ComputeView → ℕ → ℕ → View
collected v t found = Compute record { prompt = v.prompt; held = Some t; tags = slice_set v.tags t None; met = v.met ++ (t, found) ∷ []; engines = v.engines }

abbrev pub not_yet : ComputeView → ℕ → ℕ → View
not_yet v t found = Compute record { prompt = v.prompt; held = v.held; tags = v.tags; met = v.met ++ (t, found) ∷ []; engines = v.engines }

-- a store by the compute thread, of a slow word that no started transfer meets
abbrev pub stored_slow : Step Slot → Me Slot View → ℕ → Me Slot View → Type 0
stored_slow s m new m' = (v : ComputeView) (i : ℕ) → m.0 ≡ Compute v → s.word ≡ s.slots + i → (m'.0 ≡ stored v i (to_z w64 new)) × (m'.1 ≡ m.1)

-- HELD stored over FREE: the seat holds the empty slot
abbrev pub took_empty : Step Slot → Me Slot View → ℕ → Me Slot View → Type 0
took_empty s m new m' = (v : ComputeView) → m.0 ≡ Compute v → (m'.0 ≡ holding v (Some s.word)) × (m'.1 ≡ (s.word, None) ∷ m.1)

-- READY stored over HELD: the parcel is home, and its transfer is started
abbrev pub started : Step Slot → Me Slot View → ℕ → Me Slot View → Type 0
started s m new m' = (v : ComputeView) (p : Parcel) → m ≡ (Compute v, (s.word, Some p) ∷ []) →
    (p.transfer.incoming ≡ true → m' ≡ (start_in v s.word p.transfer p.cells.items, [])) × (p.transfer.incoming ≡ false → m' ≡ (start_out v s.word p.transfer p.cells.items, []))

-- DONE exchanged for HELD: where the word was 3, the parcel was taken, moved whole, with the prompt cells
abbrev pub took_done : Step Slot → Me Slot View → ℕ → Me Slot View → Type 0
took_done s m found m' = (v : ComputeView) (st : Started) → m.0 ≡ Compute v → started_at v.tags s.word ≡ Some st →
    (found ≡ 3 → (p : Parcel) × (m'.0 ≡ collected v s.word 3) × (m'.1 ≡ (s.word, Some p) ∷ m.1) × (p.transfer ≡ st.transfer) × (p.cells.items ≡ st.list) × (p.moved ≡ st.transfer.count))
    × (found ≢ 3 → (m'.0 ≡ not_yet v s.word found) × (m'.1 ≡ m.1))

-- FREE stored over HELD: the empty slot is home
abbrev pub freed : Step Slot → Me Slot View → ℕ → Me Slot View → Type 0
freed s m new m' = (v : ComputeView) → m.0 ≡ Compute v → (m'.0 ≡ holding v None) × (m'.1 ≡ rest m.1)

-- the view after a whole collect
abbrev pub after_collect : ComputeView → ℕ → ComputeView
after_collect v t = record { prompt = v.prompt; held = None; tags = slice_set v.tags t None; met = v.met ++ (t, 3) ∷ []; engines = v.engines }

-- the compute view with so many engine seats made, and with one more
abbrev pub numbered : ComputeView → ℕ → ComputeView
numbered v k = record { prompt = v.prompt; held = v.held; tags = v.tags; met = v.met; engines = k }

abbrev pub one_more : ComputeView → ComputeView
one_more v = numbered v (v.engines + 1)

-- the view of a new engine seat, with the next number
abbrev pub new_engine : ComputeView → EngineView
new_engine v = record { words = length v.prompt; number = v.engines; work = None; met = [] }
