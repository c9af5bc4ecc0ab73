-- What the old run may do while a layout stands, and how the two runs' devices are related.
use Rattle.std.specs.Prelude.{◌≡◌, ◌≢◌, ◌⊎◌, ◌&&◌, nat_eq, ℕ, ◌+◌, ◌<◌, ℤ, pos, Bool, true, false, List, map, length, Option, Some, None, slice_index_or}
use Rattle.affine_ast.specs.declared.name.Name.{Name}
use Rattle.bus_model.specs.declared.transfer.Transfer.{Transfer}
use Rattle.bus_model.specs.Places.{slow_place}
use Rattle.direct_meaning.specs.Action.{Home, SlowMemref, FastMemref, TagMemref, Place, Slow, Fast, Outside, Operand, Number, Register, Action, Known, Sets, Loads, Stores, RawLoads, RawStores, Operates, Converts, Allocates, Releases, AllocatesTags, ReleasesTags, Starts, Waits, Faults, Returns}
use Rattle.direct_meaning.specs.Static.{product}
use Rattle.direct_meaning.specs.Direct.{Outcome, End, Fault, State}
use Rattle.prompt_semantics.specs.Device.{Device, is_away, load_races, store_races, start_races}
use Rattle.boxes.specs.Every.{Every}
use Rattle.box_run_laws.specs.Layouts.{Numbering, renumbered, Cell, Copy, Layout, Mixed}

-- no slow place of a transfer lives in fast memory, or it comes in from places that aren't behind
abbrev pub IsClear : Layout → Transfer → Type 0
IsClear rho t = ((t.incoming ≡ true) × ((e : ℕ) → e < t.count → rho.stale (slow_place t e) ≡ false))
    ⊎ ((e : ℕ) → e < t.count → rho.lives (slow_place t e) ≡ None)

-- a slow place that is none of a box's, and a transfer that has no element there
abbrev pub Avoids : ℕ → Copy → Type 0
Avoids p a = (k : ℕ) → k < a.count → a.place k ≢ p

abbrev pub MissesCopy : Transfer → Copy → Type 0
MissesCopy t a = (e : ℕ) → e < t.count → (k : ℕ) → k < a.count → a.place k ≢ slow_place t e

-- the box is in its half as slow memory has it
pub record IsCopied (slow : List ℤ) (halves : ℕ → ℕ → List ℤ) (a : Copy) : Type 0 where
  pub room : length (halves a.number a.half) ≡ a.count
  pub same : (k : ℕ) → k < a.count
      → slice_index_or (halves a.number a.half) k (pos 0) ≡ slice_index_or slow (a.place k) (pos 0)

-- a transfer's tag and fast memref are none of the old run
abbrev pub IsNew : Numbering → Transfer → Type 0
IsNew nu t = ((n : ℕ) → nu.tags n ≡ t.tag → ⊥) × ((n : ℕ) → nu.fasts n ≡ t.fast → ⊥)

-- the slow places that live in fast memory lie in the slow list, no two live in one cell, none in a fast memref of the old
-- run, and a place that lives in none isn't behind
pub record Sound (nu : Numbering) (rho : Layout) (total : ℕ) : Type 0 where
  pub inside : (p : ℕ) (c : Cell) → rho.lives p ≡ Some c → p < total
  pub alone : (p q : ℕ) (c : Cell) → rho.lives p ≡ Some c → rho.lives q ≡ Some c → p ≡ q
  pub new : (p n : ℕ) (c : Cell) → rho.lives p ≡ Some c → nu.fasts n ≡ c.number → ⊥
  pub fresh : (p : ℕ) → rho.lives p ≡ None → rho.stale p ≡ false
  pub new_extra : Every (IsNew nu) rho.extra
  pub here : (p : ℕ) (c : Cell) → rho.lives p ≡ Some c → is_away rho.extra c.number c.half ≡ false
  pub new_ahead : Every (λ (a : Copy). (n : ℕ) → nu.fasts n ≢ a.number) rho.ahead
  pub elsewhere : (p : ℕ) (c : Cell) → rho.lives p ≡ Some c
      → Every (λ (a : Copy). (nat_eq c.number a.number && nat_eq c.half a.half) ≡ false) rho.ahead

module _ (own : Name → Bool) (nu : Numbering) where
  -- the parts of the two devices: what the text's names hold is equal; so is a slow place that isn't behind, and each half
  -- under its new number; a cell in which a place lives holds what the old run has there, once it is set; outstanding are
  -- the same transfers under new numbers, and none has a place that lives in fast memory
  pub record Relates (rho : Layout) (unset : ℕ → Bool) (total : ℕ) (d : State) (old : ℕ → ℕ
      → List ℤ) (started : List Transfer) (y : State) (halves : ℕ → ℕ
      → List ℤ) (outstanding : List Transfer) : Type 0 where
    pub registers : (n : Name) → own n ≡ true → d.registers n ≡ y.registers n
    pub slow : (p : ℕ) → rho.stale p ≡ false → slice_index_or d.slow p (pos 0) ≡ slice_index_or y.slow p (pos 0)
    pub old_halves : (n h : ℕ) → old n h ≡ halves (nu.fasts n) h
    pub room : (p : ℕ) (c : Cell) → rho.lives p ≡ Some c → c.cell < length (halves c.number c.half)
    pub cells : (p : ℕ) (c : Cell) → rho.lives p ≡ Some c → unset p ≡ false
        → slice_index_or (halves c.number c.half) c.cell (pos 0) ≡ slice_index_or d.slow p (pos 0)
    pub old_long : length d.slow ≡ total
    pub long : length y.slow ≡ total
    pub transfers : Mixed (map (renumbered nu) started) rho.extra outstanding
    pub clear : Every (IsClear rho) started
    pub ahead : Every (IsCopied d.slow halves) rho.ahead

  abbrev pub Related : Layout → (ℕ → Bool) → ℕ → Device → Device → Type 0
  Related rho unset total d y = Relates rho unset total d.state d.halves d.outstanding y.state y.halves y.outstanding

  abbrev pub OwnOperand : Operand → Type 0
  OwnOperand (Number z) = Unit {0}
  OwnOperand (Register n) = own n ≡ true

  -- something holds of each element of a memref in slow memory
  abbrev pub HomeWhere : (ℕ → Type 0) → Option Home → List ℕ → Type 0
  HomeWhere A (Some (SlowMemref number first)) sizes = (k : ℕ) → k < product sizes → A (first + k)
  HomeWhere A (Some (FastMemref number)) sizes = Unit {0}
  HomeWhere A (Some (TagMemref first)) sizes = Unit {0}
  HomeWhere A None sizes = Unit {0}

  -- a slow place that doesn't live in fast memory, and is free for a load, or for a store
  abbrev pub FreeToLoad : Layout → ℕ → Type 0
  FreeToLoad rho p = (rho.lives p ≡ None) × (load_races rho.extra p ≡ false)

  abbrev pub FreeToStore : Layout → ℕ → Type 0
  FreeToStore rho p = (rho.lives p ≡ None) × (store_races rho.extra p ≡ false) × Every (Avoids p) rho.ahead

  -- a place in fast memory is loaded only where it is set from the start
  abbrev pub OwnLoad : Layout → Place → Type 0
  OwnLoad rho (Slow p) = ((c : Cell) → rho.lives p ≡ Some c → rho.unset p ≡ false)
      × (rho.lives p ≡ None → load_races rho.extra p ≡ false)
  OwnLoad rho (Fast n h c) = Unit {0}
  OwnLoad rho Outside = Unit {0}

  -- and stored to only where slow memory may be behind
  abbrev pub OwnStore : Layout → Place → Type 0
  OwnStore rho (Slow p) = ((c : Cell) → rho.lives p ≡ Some c → rho.stale p ≡ true)
      × (rho.lives p ≡ None → store_races rho.extra p ≡ false) × Every (Avoids p) rho.ahead
  OwnStore rho (Fast n h c) = Unit {0}
  OwnStore rho Outside = Unit {0}

  -- tags of one allocation keep their order
  abbrev pub InOrder : ℕ → ℕ → Type 0
  InOrder first count = (k : ℕ) → k < count → nu.tags (first + k) ≡ nu.tags first + k

  -- an action of the old run
  abbrev pub OwnAction : Layout → Action → Type 0
  OwnAction rho Known = Unit {0}
  OwnAction rho (Sets r z) = own r ≡ true
  OwnAction rho (Loads r p) = (own r ≡ true) × OwnLoad rho p
  OwnAction rho (Stores x p) = OwnOperand x × OwnStore rho p
  OwnAction rho (RawLoads r home sizes subscripts) = (own r ≡ true) × HomeWhere (FreeToLoad rho) home sizes
      × Every OwnOperand subscripts
  OwnAction rho (RawStores x home sizes subscripts) = OwnOperand x × HomeWhere (FreeToStore rho) home sizes
      × Every OwnOperand subscripts
  OwnAction rho (Operates r op bits a b) = (own r ≡ true) × OwnOperand a × OwnOperand b
  OwnAction rho (Converts r kind from to x) = (own r ≡ true) × OwnOperand x
  OwnAction rho (Allocates number element sizes) = Unit {0}
  OwnAction rho (Releases number element sizes) = Unit {0}
  OwnAction rho (AllocatesTags first count) = Unit {0}
  OwnAction rho (ReleasesTags first count) = InOrder first count
  OwnAction rho (Starts t) = IsClear rho t × (start_races rho.extra (renumbered nu t) ≡ false)
      × (t.incoming ≡ false → Every (MissesCopy t) rho.ahead)
  OwnAction rho (Waits tag count) = Unit {0}
  OwnAction rho (Faults k) = Unit {0}
  OwnAction rho Returns = Unit {0}

-- the new run ends related to the old one, or stops at the same fault
abbrev pub Ends : {S T : Type 0} → (S → T → Type 0) → Outcome S → Outcome T → Type 0
Ends R (End d) (End y) = R d y
Ends R (Fault k d) (Fault j y) = k ≡ j
Ends R (End d) (Fault j y) = ⊥
Ends R (Fault k d) (End y) = ⊥
