-- Actions with their operands read, in runs of the direct meaning.
use Rattle.std.proofs.Common.{◌≡◌, ℕ, ◌+◌, ◌≤◌, ◌<◌, ℤ, List, map, length, refl, arith}
use Rattle.std.specs.Prelude.{Option, Some, None}
use Rattle.affine_ast.specs.declared.name.Name.{Name}
use Rattle.affine_ast.specs.Sizes.{product}
use Rattle.int_ops.specs.Operation.{operation}
use Rattle.direct_meaning.specs.Action.{Home, SlowMemref, FastMemref, TagMemref, Operand, Number, Action, Known, Sets, Loads, Stores, RawLoads, RawStores, Operates, Converts, Allocates, Releases, AllocatesTags, ReleasesTags, Starts, Waits, Faults, Returns}
use Rattle.direct_meaning.specs.Direct.{State, read, raw_place, keep_result, direct_step}
use Rattle.direct_meaning.specs.Static.{cell_in, slow_at, place_at}
use Rattle.run_laws.specs.CanRun.{PlaceIn, RawIn, HomeIn, CanTake}
use Rattle.run_laws.proofs.Cells.{cell_below}
use Rattle.run_parts.specs.Settled.{settled_result, settled, RawFits, CanSettle}
use Rattle.nest_meaning.specs.Held.{Lands}

-- taking an action with its operands read is taking the action
pub settled_step : (a : Action) (s : State) → direct_step (settled s.registers a) s ≡ direct_step a s
unfolding direct_step read
settled_step Known s = refl
settled_step (Sets r z) s = refl
settled_step (Loads r place) s = refl
settled_step (Stores x place) s = refl
settled_step (RawLoads r home sizes subscripts) s = refl
settled_step (RawStores x home sizes subscripts) s = refl
settled_step (Operates r op bits a b) s = by (operation op bits (read s.registers a) (read s.registers b))
  where
    by : (o : Option ℤ) → direct_step (settled_result r o) s ≡ keep_result r o s
    by (Some z) = refl
    by None = refl
settled_step (Converts r kind from to x) s = refl
settled_step (Allocates number element sizes) s = refl
settled_step (Releases number element sizes) s = refl
settled_step (AllocatesTags first count) s = refl
settled_step (ReleasesTags first count) s = refl
settled_step (Starts t) s = refl
settled_step (Waits tag count) s = refl
settled_step (Faults k) s = refl
settled_step Returns s = refl

-- ---- accesses by values

raw_fits : (cells : ℕ) (home : Option Home) (sizes : List ℕ) (subscripts : List Operand) → HomeIn cells home sizes subscripts → RawFits home sizes subscripts
raw_fits cells (Some (SlowMemref number first)) sizes subscripts h = record { sizes_positive = h.sizes_positive; rank = omega (arith, h.rank); count = h.count; home_fits = omega (arith, h.places_fit) }
raw_fits cells (Some (FastMemref number)) sizes subscripts h = absurd h
raw_fits cells (Some (TagMemref first)) sizes subscripts h = absurd h
raw_fits cells None sizes subscripts h = absurd h

raw_in : (cells : ℕ) (home : Option Home) (sizes : List ℕ) (subscripts : List Operand) (zs : List ℤ) → HomeIn cells home sizes subscripts → PlaceIn cells (place_at home sizes zs)
raw_in cells (Some (SlowMemref number first)) sizes subscripts zs h = by (cell_in sizes zs) refl
  where
    by : (o : Option ℕ) → cell_in sizes zs ≡ o → PlaceIn cells (slow_at first o)
    by (Some c) e = omega (arith, cell_below sizes zs c e, h.places)
    by None e = tt
raw_in cells (Some (FastMemref number)) sizes subscripts zs h = absurd h
raw_in cells (Some (TagMemref first)) sizes subscripts zs h = absurd h
raw_in cells None sizes subscripts zs h = absurd h

-- ---- what an executor may rely on

pub can_settle : (a : Action) (s : State) → CanTake a s → CanSettle a s.registers
can_settle Known s h = tt
can_settle (Sets r z) s h = tt
can_settle (Loads r place) s h = tt
can_settle (Stores x place) s h = tt
can_settle (RawLoads r home sizes subscripts) s h = raw_fits (length s.slow) home sizes subscripts h
can_settle (RawStores x home sizes subscripts) s h = raw_fits (length s.slow) home sizes subscripts h
can_settle (Operates r op bits a b) s h = (h.1, h.2)
can_settle (Converts r kind from to x) s h = (h.2, h.3)
can_settle (Allocates number element sizes) s h = tt
can_settle (Releases number element sizes) s h = tt
can_settle (AllocatesTags first count) s h = tt
can_settle (ReleasesTags first count) s h = tt
can_settle (Starts t) s h = tt
can_settle (Waits tag count) s h = tt
can_settle (Faults k) s h = tt
can_settle Returns s h = tt

pub lands : (a : Action) (s : State) → CanTake a s → Lands (length s.slow) (settled s.registers a)
lands Known s h = tt
lands (Sets r z) s h = tt
lands (Loads r place) s h = h
lands (Stores x place) s h = h
lands (RawLoads r home sizes subscripts) s h = raw_in (length s.slow) home sizes subscripts (map (read s.registers) subscripts) h
lands (RawStores x home sizes subscripts) s h = raw_in (length s.slow) home sizes subscripts (map (read s.registers) subscripts) h
lands (Operates r op bits a b) s h = by (operation op bits (read s.registers a) (read s.registers b))
  where
    by : (o : Option ℤ) → Lands (length s.slow) (settled_result r o)
    by (Some z) = tt
    by None = tt
lands (Converts r kind from to x) s h = tt
lands (Allocates number element sizes) s h = tt
lands (Releases number element sizes) s h = tt
lands (AllocatesTags first count) s h = tt
lands (ReleasesTags first count) s h = tt
lands (Starts t) s h = tt
lands (Waits tag count) s h = tt
lands (Faults k) s h = tt
lands Returns s h = tt
