-- Actions that name no register.
use Rattle.std.proofs.Common.{◌≡◌, ℕ, ◌+◌, List, [], ◌∷◌, refl, Bool, true, false}
use Rattle.std.specs.Prelude.{Option, Some, None, if◌then◌else◌}
use Rattle.affine_ast.specs.declared.name.Name.{Name}
use Rattle.affine_ast.specs.declared.types.Access.{Access}
use Rattle.affine_ast.specs.declared.types.MemrefType.{MemrefType}
use Rattle.bus_model.specs.declared.step.FaultKind.TheVariants.{Bounds, Shape}
use Rattle.bus_model.specs.declared.transfer.Transfer.{Transfer}
use Rattle.direct_meaning.specs.Transfers.{ends_by}
use Rattle.direct_meaning.specs.Action.{Home, SlowMemref, FastMemref, TagMemref, Place, Slow, Fast, Outside, Action, Known, Sets, Loads, Stores, RawLoads, RawStores, Operates, Converts, Allocates, Releases, AllocatesTags, ReleasesTags, Starts, Waits, Faults, Returns}
use Rattle.direct_meaning.specs.Static.{Env, product}
use Rattle.direct_meaning.specs.Actions.{half_cells, is_fast, alloc_of, dealloc_of, Layout, has_shape, started, transfer_of, start_between, start_of, wait_of}
use Rattle.placement_texts.specs.Renamed.{action_named}

abbrev pub IsMute : Action → Type 0
IsMute (Sets r z) = ⊥
IsMute (Loads r p) = ⊥
IsMute (Stores x p) = ⊥
IsMute (RawLoads r home sizes at) = ⊥
IsMute (RawStores x home sizes at) = ⊥
IsMute (Operates r op bits a b) = ⊥
IsMute (Converts r kind from to x) = ⊥
IsMute a = Unit {0}

-- other names don't change them
pub mute_named : (f : Name → Name) (a : Action) → IsMute a → action_named f a ≡ a
mute_named f (Sets r z) h = absurd h
mute_named f (Loads r p) h = absurd h
mute_named f (Stores x p) h = absurd h
mute_named f (RawLoads r home sizes at) h = absurd h
mute_named f (RawStores x home sizes at) h = absurd h
mute_named f (Operates r op bits a b) h = absurd h
mute_named f (Converts r kind from to x) h = absurd h
mute_named f Known h = refl
mute_named f (Allocates number element sizes) h = refl
mute_named f (Releases number element sizes) h = refl
mute_named f (AllocatesTags first count) h = refl
mute_named f (ReleasesTags first count) h = refl
mute_named f (Starts t) h = refl
mute_named f (Waits tag count) h = refl
mute_named f (Faults k) h = refl
mute_named f Returns h = refl

pub mute_alloc : (e : Env) (ty : MemrefType) → IsMute (alloc_of e ty)
mute_alloc e ty = by (is_fast ty)
  where
    by : (t : Bool) → IsMute (if t then Allocates e.fasts ty.element ty.sizes else AllocatesTags e.tags (product ty.sizes))
    by true = tt
    by false = tt

pub mute_dealloc : (home : Option Home) (ty : MemrefType) → IsMute (dealloc_of home ty)
mute_dealloc (Some (FastMemref n)) ty = tt
mute_dealloc (Some (TagMemref first)) ty = tt
mute_dealloc (Some (SlowMemref n first)) ty = tt
mute_dealloc None ty = tt

mute_started : (t : Transfer) (end cells : ℕ) → IsMute (started t end cells)
mute_started t end cells = by (ends_by t end) (has_shape t cells)
  where
    by : (a b : Bool) → IsMute (if a then (if b then Starts t else Faults Shape) else Faults Bounds)
    by true true = tt
    by true false = tt
    by false b = tt

mute_transfer : (incoming : Bool) (memref first : ℕ) (slow fast : MemrefType) (y : Layout) (a b : Place) (tag : Option ℕ) → IsMute (transfer_of incoming memref first slow fast y a b tag)
mute_transfer incoming memref first slow fast y (Slow base) (Fast n h c) (Some tag) = mute_started (record { incoming = incoming; tag = tag; memref = memref; base = base; stride = y.stride; chunk = y.chunk; count = y.count; fast = n; half = h; offset = c }) (first + product slow.sizes) (half_cells fast.sizes)
mute_transfer incoming memref first slow fast y (Slow base) (Fast n h c) None = tt
mute_transfer incoming memref first slow fast y (Slow base) (Slow q) tag = tt
mute_transfer incoming memref first slow fast y (Slow base) Outside tag = tt
mute_transfer incoming memref first slow fast y (Fast n h c) b tag = tt
mute_transfer incoming memref first slow fast y Outside b tag = tt

mute_between : (x z : Option Home) (a b : Place) (s t : MemrefType) (y : Layout) (tag : Option ℕ) → IsMute (start_between x z a b s t y tag)
mute_between (Some (SlowMemref m first)) z a b s t y tag = mute_transfer true m first s t y a b tag
mute_between (Some (FastMemref n)) (Some (SlowMemref m first)) a b s t y tag = mute_transfer false m first t s y b a tag
mute_between (Some (FastMemref n)) (Some (FastMemref m)) a b s t y tag = tt
mute_between (Some (FastMemref n)) (Some (TagMemref m)) a b s t y tag = tt
mute_between (Some (FastMemref n)) None a b s t y tag = tt
mute_between (Some (TagMemref n)) (Some (SlowMemref m first)) a b s t y tag = mute_transfer false m first t s y b a tag
mute_between (Some (TagMemref n)) (Some (FastMemref m)) a b s t y tag = tt
mute_between (Some (TagMemref n)) (Some (TagMemref m)) a b s t y tag = tt
mute_between (Some (TagMemref n)) None a b s t y tag = tt
mute_between None (Some (SlowMemref m first)) a b s t y tag = mute_transfer false m first t s y b a tag
mute_between None (Some (FastMemref m)) a b s t y tag = tt
mute_between None (Some (TagMemref m)) a b s t y tag = tt
mute_between None None a b s t y tag = tt

pub mute_start : (e : Env) (a : Name) (a_at : Access) (b : Name) (b_at : Access) (t : Name) (t_at : Access) (y : Layout) (types : List MemrefType) → IsMute (start_of e a a_at b b_at t t_at y types)
mute_start e a a_at b b_at t t_at y (p ∷ q ∷ r ∷ []) = mute_between (e.home a) (e.home b) _ _ p q y _
mute_start e a a_at b b_at t t_at y [] = tt
mute_start e a a_at b b_at t t_at y (p ∷ []) = tt
mute_start e a a_at b b_at t t_at y (p ∷ q ∷ []) = tt
mute_start e a a_at b b_at t t_at y (p ∷ q ∷ r ∷ s ∷ more) = tt

pub mute_wait : (tag : Option ℕ) (count : ℕ) → IsMute (wait_of tag count)
mute_wait (Some tag) count = tt
mute_wait None count = tt
