-- The actions of statements, in order. No memory is read and no fault of the run stops them.
use Rattle.std.specs.Prelude.{ℕ, suc, ◌+◌, ◌%◌, ℤ, Bool, true, false, ◌&&◌, List, [], ◌∷◌, ◌++◌, map, flat_map, Option, Some, None, nat_eq, nat_le, if◌then◌else◌}
use Rattle.affine_ast.specs.declared.name.Name.{Name}
use Rattle.affine_ast.specs.declared.types.Access.{Access}
use Rattle.affine_ast.specs.declared.types.MemrefType.{MemrefType}
use Rattle.affine_ast.specs.declared.types.Scalar.{Scalar}
use Rattle.affine_ast.specs.declared.types.Scalar.TheVariants.{Int, Index}
use Rattle.affine_ast.specs.Names.{put}
use Rattle.affine_ast.specs.Nest.{Plain, Nest, Nothing, Loop, Branch, Does, Value, Load, Store, RawLoad, RawStore, Constant, Binary, Cast, Alloc, Dealloc, Start, Wait, Return}
use Rattle.affine_ast.specs.Parts.{Effect, NewIndex, NewConstant, NewData, NewMemref, Released, Unchanged, effect_of}
use Rattle.bus_model.specs.declared.step.FaultKind.TheVariants.{Bounds, Shape}
use Rattle.bus_model.specs.declared.transfer.Transfer.{Transfer}
use Rattle.direct_meaning.specs.Turns.{turns, gap}
use Rattle.direct_meaning.specs.Transfers.{ends_by}
use Rattle.direct_meaning.specs.Action.{Home, SlowMemref, FastMemref, TagMemref, Place, Slow, Fast, Action, Known, Sets, Loads, Stores, RawLoads, RawStores, Operates, Converts, Allocates, Releases, AllocatesTags, ReleasesTags, Starts, Waits, Faults, Returns}
use Rattle.direct_meaning.specs.Static.{Env, knows, forgets, number, operand, results_of, picked, lower_of, upper_of, holds_at, product, place_of, tag_of, scalar_bits}

abbrev pub constant_of : Name → ℤ → Scalar → Action
constant_of r z (Int e) = Sets r z
constant_of r z Index = Known

-- an allocation lies in space 1, or else holds tags
abbrev pub is_fast : MemrefType → Bool
is_fast ty = nat_eq ty.space 1

abbrev pub alloc_of : Env → MemrefType → Action
alloc_of e ty = if is_fast ty then Allocates e.fasts ty.element ty.sizes else AllocatesTags e.tags (product ty.sizes)

-- a dealloc names an allocation; in no valid module it names anything else
abbrev pub dealloc_of : Option Home → MemrefType → Action
dealloc_of (Some (FastMemref number)) ty = Releases number ty.element ty.sizes
dealloc_of (Some (TagMemref first)) ty = ReleasesTags first (product ty.sizes)
dealloc_of (Some (SlowMemref number first)) ty = Known
dealloc_of None ty = Known

-- the elements of one half
abbrev pub half_cells : List ℕ → ℕ
half_cells [] = 0
half_cells (halves ∷ sizes) = product sizes

-- the count of elements, and how they lie: chunks of so many elements, begun a stride apart
pub record Layout : Type 0 where
  pub count : ℕ
  pub stride : ℕ
  pub chunk : ℕ

-- without stride and chunk, both are the count
abbrev pub layout_of : Env → Name → Option (Name × Name) → Layout
layout_of e n None = record { count = gap (number (e.known n)); stride = gap (number (e.known n)); chunk = gap (number (e.known n)) }
layout_of e n (Some two) = record { count = gap (number (e.known n)); stride = gap (number (e.known two.0)); chunk = gap (number (e.known two.1)) }

-- the fast part lies within its half, and the count is a multiple of the chunk
abbrev pub has_shape : Transfer → ℕ → Bool
has_shape t cells = nat_le (t.offset + t.count) cells && nat_eq (t.count % t.chunk) 0

-- a start whose subscripts are inside their sizes, `end` the place behind the slow memref, `cells` those of a half: the
-- fault `bounds` where a slow place passes the memref's end, before the fault `shape`
abbrev pub started : Transfer → ℕ → ℕ → Action
started t end cells = if ends_by t end then (if has_shape t cells then Starts t else Faults Shape) else Faults Bounds

-- a transfer between a place of the slow memref of that number, which begins at `first`, and a place of a fast memref
abbrev pub transfer_of : Bool → ℕ → ℕ → MemrefType → MemrefType → Layout → Place → Place → Option ℕ → Action
transfer_of incoming memref first slow fast layout (Slow base) (Fast number half cell) (Some tag) =
    started (record { incoming = incoming; tag = tag; memref = memref; base = base; stride = layout.stride; chunk = layout.chunk; count = layout.count; fast = number; half = half; offset = cell }) (first + product slow.sizes) (half_cells fast.sizes)
transfer_of incoming memref first slow fast layout a b tag = Faults Bounds

-- a start between two memrefs: incoming where the first is slow, outgoing where the second is; others aren't valid
abbrev pub start_between : Option Home → Option Home → Place → Place → MemrefType → MemrefType → Layout → Option ℕ → Action
start_between (Some (SlowMemref memref first)) to a b from_ty to_ty layout tag = transfer_of true memref first from_ty to_ty layout a b tag
start_between from (Some (SlowMemref memref first)) a b from_ty to_ty layout tag = transfer_of false memref first to_ty from_ty layout b a tag
start_between from to a b from_ty to_ty layout tag = Faults Bounds

abbrev pub start_of : Env → Name → Access → Name → Access → Name → Access → Layout → List MemrefType → Action
start_of e a a_at b b_at t t_at layout (a_ty ∷ b_ty ∷ t_ty ∷ []) =
    start_between (e.home a) (e.home b) (place_of e a a_at a_ty) (place_of e b b_at b_ty) a_ty b_ty layout (tag_of e t t_at t_ty)
start_of e a a_at b b_at t t_at layout types = Faults Bounds

abbrev pub wait_of : Option ℕ → ℕ → Action
wait_of (Some tag) count = Waits tag count
wait_of None count = Faults Bounds

-- the action of a statement, where this is known
unfoldable pub action_of : Plain → Env → Action
action_of (Value r pick at) e = Known
action_of (Load r m at ty) e = Loads r (place_of e m at ty)
action_of (Store x m at ty) e = Stores (operand e x) (place_of e m at ty)
action_of (RawLoad r m at ty) e = RawLoads r (e.home m) ty.sizes (map (operand e) at)
action_of (RawStore x m at ty) e = RawStores (operand e x) (e.home m) ty.sizes (map (operand e) at)
action_of (Constant r z ty) e = constant_of r z ty
action_of (Binary r op a b ty) e = Operates r op (scalar_bits ty) (operand e a) (operand e b)
action_of (Cast r kind x from to) e = Converts r kind (scalar_bits from) (scalar_bits to) (operand e x)
action_of (Alloc r ty) e = alloc_of e ty
action_of (Dealloc m ty) e = dealloc_of (e.home m) ty
action_of (Start a a_at b b_at t t_at n stride types) e = start_of e a a_at b b_at t t_at (layout_of e n stride) types
action_of (Wait t at n ty) e = wait_of (tag_of e t at ty) (gap (number (e.known n)))
action_of Return e = Returns

abbrev pub after_constant : Name → ℤ → Scalar → Env → Env
after_constant r z (Int element) e = forgets e r
after_constant r z Index e = knows e r z

-- an allocation has the next number
abbrev pub after_alloc : Name → MemrefType → Env → Env
after_alloc r ty e =
    if is_fast ty
    then record e { home = put e.home r (Some (FastMemref e.fasts)); fasts = suc e.fasts }
    else record e { home = put e.home r (Some (TagMemref e.tags)); tags = e.tags + product ty.sizes }

-- what is known after what a statement does to the names round it
abbrev pub after_effect : Effect → Env → Env
after_effect (NewIndex r pick at) e = knows e r (picked pick (results_of e at))
after_effect (NewConstant r z ty) e = after_constant r z ty e
after_effect (NewData r ty) e = forgets e r
after_effect (NewMemref r ty) e = after_alloc r ty e
after_effect (Released m) e = e
after_effect Unchanged e = e

-- what is known after a statement
unfoldable pub after_plain : Plain → Env → Env
after_plain p e = after_effect (effect_of p) e

abbrev pub fasts_of_effect : Effect → ℕ
fasts_of_effect (NewMemref r ty) = if is_fast ty then 1 else 0
fasts_of_effect x = 0

abbrev pub fasts_of_plain : Plain → ℕ
fasts_of_plain p = fasts_of_effect (effect_of p)

abbrev pub tags_of_effect : Effect → ℕ
tags_of_effect (NewMemref r ty) = if is_fast ty then 0 else product ty.sizes
tags_of_effect x = 0

abbrev pub tags_of_plain : Plain → ℕ
tags_of_plain p = tags_of_effect (effect_of p)

-- how many allocations in space 1 stand in a text
abbrev pub fasts_in : Nest → ℕ
fasts_in Nothing = 0
fasts_in (Loop line v l u s body rest) = fasts_in body + fasts_in rest
fasts_in (Branch line set names first has other rest) = fasts_in first + fasts_in other + fasts_in rest
fasts_in (Does line p rest) = fasts_of_plain p + fasts_in rest

-- how many elements the allocations in space 2 of a text have
abbrev pub tags_in : Nest → ℕ
tags_in Nothing = 0
tags_in (Loop line v l u s body rest) = tags_in body + tags_in rest
tags_in (Branch line set names first has other rest) = tags_in first + tags_in other + tags_in rest
tags_in (Does line p rest) = tags_of_plain p + tags_in rest

-- what stands behind a region: nothing of it is known, and the numbers of its allocations are taken
abbrev pub behind : Nest → Env → Env
behind region e = record e { fasts = e.fasts + fasts_in region; tags = e.tags + tags_in region }

-- the actions of statements in program order: a loop's are those of its turns one after the other, a condition's those of
-- the region that it chooses. An allocation that runs again has its numbers again
unfoldable pub actions : Nest → Env → List Action
actions Nothing e = []
actions (Loop line v l u s body rest) e = flat_map (λ t. actions body (knows e v t)) (turns (lower_of e l) (upper_of e u) s) ++ actions rest (behind body e)
actions (Branch line set names first has other rest) e =
    (if holds_at e set names then actions first e else actions other (behind first e)) ++ actions rest (behind other (behind first e))
actions (Does line p rest) e = action_of p e ∷ actions rest (after_plain p e)

-- what is known behind statements
unfoldable pub after : Nest → Env → Env
after Nothing e = e
after (Loop line v l u s body rest) e = after rest (behind body e)
after (Branch line set names first has other rest) e = after rest (behind other (behind first e))
after (Does line p rest) e = after rest (after_plain p e)
