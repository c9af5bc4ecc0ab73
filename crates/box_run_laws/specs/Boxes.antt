-- A box of slow places that lives in one half of a fast memref. Which slow place a cell of the half holds is a function, so
-- nothing is said of ranks.
use Rattle.std.specs.Prelude.{◌≡◌, ◌⊎◌, ℕ, zero, suc, ◌<◌, ◌≢◌, ◌&&◌, Bool, true, false, List, [], Option, Some, None, is_some, nat_eq, if◌then◌else◌}
use Rattle.bus_model.specs.declared.transfer.Transfer.{Transfer}
use Rattle.bus_model.specs.Places.{slow_place}
use Rattle.prompt_semantics.specs.Device.{is_away}
use Rattle.boxes.specs.Every.{Every}
use Rattle.box_run_laws.specs.Layouts.{Numbering, Cell, Copy, Layout, nowhere}
use Rattle.box_run_laws.specs.Owned.{IsNew}

-- the cell of the first n that holds a slow place
abbrev pub found : (ℕ → ℕ) → ℕ → ℕ → Option ℕ
found place zero p = None
found place (suc n) p = if nat_eq (place n) p then Some n else found place n p

abbrev pub cell_at : ℕ → ℕ → Option ℕ → Option Cell
cell_at number half (Some k) = Some (record { number = number; half = half; cell = k })
cell_at number half None = None

abbrev pub in_box : (ℕ → ℕ) → ℕ → ℕ → Bool
in_box place n p = is_some (found place n p)

-- the half of a fast memref that a placement has, whether it is read in, and whether it is written out
pub record Half : Type 0 where
  pub number : ℕ
  pub half : ℕ
  pub count : ℕ
  pub reads : Bool
  pub writes : Bool

-- the box lives in the half; where it is written out its slow places may be behind, and where it isn't read in its cells
-- are unset
abbrev pub boxed : Half → (ℕ → ℕ) → Layout
boxed b place = record {
  lives = λ p. cell_at b.number b.half (found place b.count p);
  stale = λ p. if b.writes then in_box place b.count p else false;
  unset = λ p. if b.reads then false else in_box place b.count p;
  extra = [];
  ahead = [];
}

-- the same while the new run has transfers of its own outstanding, and boxes copied ahead
abbrev pub boxed_beside : Half → (ℕ → ℕ) → List Transfer → List Copy → Layout
boxed_beside b place es rest = record (boxed b place) { extra = es; ahead = rest }

-- nothing lives in fast memory, but some is on its way or copied ahead
abbrev pub between : List Transfer → List Copy → Layout
between es rest = record nowhere { extra = es; ahead = rest }

-- the transfers and the copies beside a box are no matter of the old run, and not of its half
pub record Beside (nu : Numbering) (b : Half) (es : List Transfer) (rest : List Copy) : Type 0 where
  pub new_extra : Every (IsNew nu) es
  pub here : is_away es b.number b.half ≡ false
  pub new_ahead : Every (λ (a : Copy). (n : ℕ) → nu.fasts n ≢ a.number) rest
  pub elsewhere : Every (λ (a : Copy). (nat_eq b.number a.number && nat_eq b.half a.half) ≡ false) rest

-- no two of the first n cells hold one slow place
abbrev pub Distinct : (ℕ → ℕ) → ℕ → Type 0
Distinct place n = (i j : ℕ) → i < n → j < n → place i ≡ place j → i ≡ j

-- no element of a transfer lies in the box
abbrev pub Misses : (ℕ → ℕ) → ℕ → Transfer → Type 0
Misses place n t = (e : ℕ) → e < t.count → (i : ℕ) → i < n → slow_place t e ≢ place i

-- a transfer of the old run that may be under way while the box is in fast memory: it misses the box, or it comes in and the
-- box isn't written
abbrev pub Allows : Half → (ℕ → ℕ) → Transfer → Type 0
Allows b place t = ((b.writes ≡ false) × (t.incoming ≡ true)) ⊎ Misses place b.count t
