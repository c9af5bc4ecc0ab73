-- No action of a text is the fault `capacity` by its static part.
use Rattle.std.proofs.Common.{ℕ, ◌+◌, ℤ, Bool, true, false, List, [], ◌∷◌, ◌++◌}
use Rattle.std.specs.Prelude.{◌≢◌, flat_map, Option, Some, None, if◌then◌else◌}
use Rattle.affine_ast.specs.declared.name.Name.{Name}
use Rattle.affine_ast.specs.declared.types.Access.{Access}
use Rattle.affine_ast.specs.declared.types.MemrefType.{MemrefType}
use Rattle.affine_ast.specs.declared.types.Scalar.{Scalar}
use Rattle.affine_ast.specs.declared.types.Scalar.TheVariants.{Int, Index}
use Rattle.affine_ast.specs.Nest.{Plain, Nest, Nothing, Loop, Branch, Does, Value, Load, Store, RawLoad, RawStore, Constant, Binary, Cast, Alloc, Dealloc, Start, Wait, Return}
use Rattle.bus_model.specs.declared.step.FaultKind.TheVariants.{Bounds, Capacity, Shape}
use Rattle.bus_model.specs.declared.transfer.Transfer.{Transfer}
use Rattle.direct_meaning.specs.Turns.{turns}
use Rattle.direct_meaning.specs.Transfers.{ends_by}
use Rattle.direct_meaning.specs.Action.{Home, SlowMemref, FastMemref, TagMemref, Place, Slow, Fast, Outside, Action, Allocates, AllocatesTags, Starts, Faults}
use Rattle.direct_meaning.specs.Static.{Env, knows, product, tag_of, lower_of, upper_of, holds_at}
use Rattle.direct_meaning.specs.Actions.{half_cells, is_fast, alloc_of, dealloc_of, constant_of, Layout, layout_of, has_shape, started, transfer_of, start_between, start_of, wait_of, action_of, after_plain, behind, actions}

abbrev pub Mild : Action → Type 0
Mild (Faults k) = k ≢ Capacity
Mild a = Unit {0}

abbrev pub AllMild : List Action → Type 0
AllMild [] = Unit {0}
AllMild (a ∷ xs) = Mild a × AllMild xs

mild_append : (xs ys : List Action) → AllMild xs → AllMild ys → AllMild (xs ++ ys)
mild_append [] ys h k = k
mild_append (a ∷ xs) ys h k = (h.0, mild_append xs ys h.1 k)

mild_turns : (f : ℤ → List Action) → ((z : ℤ) → AllMild (f z)) → (ts : List ℤ) → AllMild (flat_map f ts)
mild_turns f h [] = tt
mild_turns f h (t ∷ ts) = mild_append (f t) (flat_map f ts) (h t) (mild_turns f h ts)

-- ---- one statement
bounds_mild : Bounds ≢ Capacity
bounds_mild h = let z : ⊥ = cc in z

shape_mild : Shape ≢ Capacity
shape_mild h = let z : ⊥ = cc in z

mild_alloc : (e : Env) (ty : MemrefType) → Mild (alloc_of e ty)
mild_alloc e ty = by (is_fast ty)
  where
    by : (t : Bool) → Mild (if t then Allocates e.fasts ty.element ty.sizes else AllocatesTags e.tags (product ty.sizes))
    by true = tt
    by false = tt

mild_dealloc : (home : Option Home) (ty : MemrefType) → Mild (dealloc_of home ty)
mild_dealloc (Some (FastMemref n)) ty = tt
mild_dealloc (Some (TagMemref first)) ty = tt
mild_dealloc (Some (SlowMemref n first)) ty = tt
mild_dealloc None ty = tt

mild_constant : (r : Name) (z : ℤ) (s : Scalar) → Mild (constant_of r z s)
mild_constant r z (Int e) = tt
mild_constant r z Index = tt

mild_started : (t : Transfer) (end cells : ℕ) → Mild (started t end cells)
mild_started t end cells = by (ends_by t end) (has_shape t cells)
  where
    by : (a b : Bool) → Mild (if a then (if b then Starts t else Faults Shape) else Faults Bounds)
    by true true = tt
    by true false = shape_mild
    by false b = bounds_mild

mild_transfer : (incoming : Bool) (memref first : ℕ) (slow fast : MemrefType) (y : Layout) (a b : Place) (tag : Option ℕ) → Mild (transfer_of incoming memref first slow fast y a b tag)
mild_transfer incoming memref first slow fast y (Slow base) (Fast n h c) (Some tag) = mild_started (record { incoming = incoming; tag = tag; memref = memref; base = base; stride = y.stride; chunk = y.chunk; count = y.count; fast = n; half = h; offset = c }) (first + product slow.sizes) (half_cells fast.sizes)
mild_transfer incoming memref first slow fast y (Slow base) (Fast n h c) None = bounds_mild
mild_transfer incoming memref first slow fast y (Slow base) (Slow q) tag = bounds_mild
mild_transfer incoming memref first slow fast y (Slow base) Outside tag = bounds_mild
mild_transfer incoming memref first slow fast y (Fast n h c) b tag = bounds_mild
mild_transfer incoming memref first slow fast y Outside b tag = bounds_mild

mild_between : (f g : Option Home) (a b : Place) (s t : MemrefType) (y : Layout) (tag : Option ℕ) → Mild (start_between f g a b s t y tag)
mild_between (Some (SlowMemref m first)) g a b s t y tag = mild_transfer true m first s t y a b tag
mild_between (Some (FastMemref n)) (Some (SlowMemref m first)) a b s t y tag = mild_transfer false m first t s y b a tag
mild_between (Some (FastMemref n)) (Some (FastMemref m)) a b s t y tag = bounds_mild
mild_between (Some (FastMemref n)) (Some (TagMemref m)) a b s t y tag = bounds_mild
mild_between (Some (FastMemref n)) None a b s t y tag = bounds_mild
mild_between (Some (TagMemref n)) (Some (SlowMemref m first)) a b s t y tag = mild_transfer false m first t s y b a tag
mild_between (Some (TagMemref n)) (Some (FastMemref m)) a b s t y tag = bounds_mild
mild_between (Some (TagMemref n)) (Some (TagMemref m)) a b s t y tag = bounds_mild
mild_between (Some (TagMemref n)) None a b s t y tag = bounds_mild
mild_between None (Some (SlowMemref m first)) a b s t y tag = mild_transfer false m first t s y b a tag
mild_between None (Some (FastMemref m)) a b s t y tag = bounds_mild
mild_between None (Some (TagMemref m)) a b s t y tag = bounds_mild
mild_between None None a b s t y tag = bounds_mild

mild_start : (e : Env) (a : Name) (a_at : Access) (b : Name) (b_at : Access) (t : Name) (t_at : Access) (y : Layout) (types : List MemrefType) → Mild (start_of e a a_at b b_at t t_at y types)
mild_start e a a_at b b_at t t_at y (p ∷ q ∷ r ∷ []) = mild_between (e.home a) (e.home b) _ _ p q y _
mild_start e a a_at b b_at t t_at y [] = bounds_mild
mild_start e a a_at b b_at t t_at y (p ∷ []) = bounds_mild
mild_start e a a_at b b_at t t_at y (p ∷ q ∷ []) = bounds_mild
mild_start e a a_at b b_at t t_at y (p ∷ q ∷ r ∷ s ∷ more) = bounds_mild

mild_wait : (tag : Option ℕ) (count : ℕ) → Mild (wait_of tag count)
mild_wait (Some tag) count = tt
mild_wait None count = bounds_mild

mild_plain : (p : Plain) (e : Env) → Mild (action_of p e)
unfolding action_of
mild_plain (Value r pick at) e = tt
mild_plain (Load r m at ty) e = tt
mild_plain (Store x m at ty) e = tt
mild_plain (RawLoad r m at ty) e = tt
mild_plain (RawStore x m at ty) e = tt
mild_plain (Constant r z ty) e = mild_constant r z ty
mild_plain (Binary r op a b ty) e = tt
mild_plain (Cast r kind x from to) e = tt
mild_plain (Alloc r ty) e = mild_alloc e ty
mild_plain (Dealloc m ty) e = mild_dealloc (e.home m) ty
mild_plain (Start a a_at b b_at t t_at n stride types) e = mild_start e a a_at b b_at t t_at (layout_of e n stride) types
mild_plain (Wait t at n ty) e = mild_wait (tag_of e t at ty) _
mild_plain Return e = tt

mild_either : (t : Bool) (xs ys : List Action) → AllMild xs → AllMild ys → AllMild (if t then xs else ys)
mild_either true xs ys h k = h
mild_either false xs ys h k = k

-- ---- a text
pub all_mild : (n : Nest) (e : Env) → AllMild (actions n e)
unfolding actions
all_mild Nothing e = tt
all_mild (Loop line v l u s body rest) e = mild_append _ _ (mild_turns (λ z. actions body (knows e v z)) (λ z. all_mild body (knows e v z)) (turns (lower_of e l) (upper_of e u) s)) (all_mild rest (behind body e))
all_mild (Branch line set names first has other rest) e = mild_append _ _ (mild_either (holds_at e set names) (actions first e) (actions other (behind first e)) (all_mild first e) (all_mild other (behind first e))) (all_mild rest (behind other (behind first e)))
all_mild (Does line p rest) e = (mild_plain p e, all_mild rest (after_plain p e))
