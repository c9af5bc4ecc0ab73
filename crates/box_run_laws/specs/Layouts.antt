-- A run of actions with one more placement: new numbers for the fast memrefs and tags that stand before, since an allocation
-- more in the text shifts those behind it, and cells of a new fast memref in which slow places live.
use Rattle.std.specs.Prelude.{◌≡◌, ◌⊎◌, ℕ, Bool, false, List, [], ◌∷◌, Option, Some, None, nat_eq, if◌then◌else◌}
use Rattle.bus_model.specs.declared.transfer.Transfer.{Transfer}
use Rattle.direct_meaning.specs.Action.{Home, SlowMemref, FastMemref, TagMemref, Place, Slow, Fast, Outside, Action, Loads, Stores, RawLoads, RawStores, Allocates, Releases, AllocatesTags, ReleasesTags, Starts, Waits}

-- the new number of each fast memref and of each tag
pub record Numbering : Type 0 where
  pub fasts : ℕ → ℕ
  pub tags : ℕ → ℕ

abbrev pub Injective : (ℕ → ℕ) → Type 0
Injective f = (a b : ℕ) → f a ≡ f b → a ≡ b

-- no two have one new number
pub record Renumbers (nu : Numbering) : Type 0 where
  pub fasts : Injective nu.fasts
  pub tags : Injective nu.tags

abbrev pub renumbered : Numbering → Transfer → Transfer
renumbered nu t = record t { fast = nu.fasts t.fast; tag = nu.tags t.tag }

abbrev pub renumbered_home : Numbering → Home → Home
renumbered_home nu (SlowMemref number first) = SlowMemref number first
renumbered_home nu (FastMemref number) = FastMemref (nu.fasts number)
renumbered_home nu (TagMemref first) = TagMemref (nu.tags first)

abbrev pub renumbered_if : Numbering → Option Home → Option Home
renumbered_if nu (Some home) = Some (renumbered_home nu home)
renumbered_if nu None = None

-- a cell of fast memory, by its new number
pub record Cell : Type 0 where
  pub number : ℕ
  pub half : ℕ
  pub cell : ℕ

-- a box of slow places that was copied to a half before it is used
pub record Copy : Type 0 where
  pub number : ℕ
  pub half : ℕ
  pub count : ℕ
  pub place : ℕ → ℕ

-- the cell of fast memory that a slow place lives in, where it lives in one; which slow places are behind in the new run;
-- which of the places that live in a cell aren't there from the start; the transfers that the new run alone has
-- outstanding; the boxes that were copied ahead
pub record Layout : Type 0 where
  pub lives : ℕ → Option Cell
  pub stale : ℕ → Bool
  pub unset : ℕ → Bool
  pub extra : List Transfer
  pub ahead : List Copy

-- nothing of the memref is in fast memory, and nothing on its way
abbrev pub nowhere : Layout
nowhere = record { lives = λ p. None; stale = λ p. false; unset = λ p. false; extra = []; ahead = [] }

-- a list is two lists, mixed in some order
abbrev pub Mixed : List Transfer → List Transfer → List Transfer → Type 0
Mixed xs es [] = (xs ≡ []) × (es ≡ [])
Mixed xs es (z ∷ zs) = ((r : List Transfer) × (xs ≡ z ∷ r) × Mixed r es zs)
    ⊎ ((r : List Transfer) × (es ≡ z ∷ r) × Mixed xs r zs)

abbrev pub moved_to : ℕ → Option Cell → Place
moved_to p (Some c) = Fast c.number c.half c.cell
moved_to p None = Slow p

unfoldable pub place_moved : Numbering → Layout → Place → Place
place_moved nu rho (Slow p) = moved_to p (rho.lives p)
place_moved nu rho (Fast n h c) = Fast (nu.fasts n) h c
place_moved nu rho Outside = Outside

-- the new run's action for one of the old run
unfoldable pub moved : Numbering → Layout → Action → Action
moved nu rho (Loads r p) = Loads r (place_moved nu rho p)
moved nu rho (Stores x p) = Stores x (place_moved nu rho p)
moved nu rho (RawLoads r home sizes subscripts) = RawLoads r (renumbered_if nu home) sizes subscripts
moved nu rho (RawStores x home sizes subscripts) = RawStores x (renumbered_if nu home) sizes subscripts
moved nu rho (Allocates number element sizes) = Allocates (nu.fasts number) element sizes
moved nu rho (Releases number element sizes) = Releases (nu.fasts number) element sizes
moved nu rho (AllocatesTags first count) = AllocatesTags (nu.tags first) count
moved nu rho (ReleasesTags first count) = ReleasesTags (nu.tags first) count
moved nu rho (Starts t) = Starts (renumbered nu t)
moved nu rho (Waits tag count) = Waits (nu.tags tag) count
moved nu rho a = a

-- what is still unset behind a store, behind an action, and behind a list of actions
abbrev pub unset_but : Place → (ℕ → Bool) → (ℕ → Bool)
unset_but (Slow q) u = λ p. if nat_eq q p then false else u p
unset_but (Fast n h c) u = u
unset_but Outside u = u

abbrev pub still_unset : Action → (ℕ → Bool) → (ℕ → Bool)
still_unset (Stores x place) u = unset_but place u
still_unset a u = u

abbrev pub unset_behind : List Action → (ℕ → Bool) → (ℕ → Bool)
unset_behind [] u = u
unset_behind (a ∷ xs) u = unset_behind xs (still_unset a u)
