-- The actions of a valid text, and the steps of engines that they ask for, are no more than the work.
use Rattle.std.proofs.Common.{◌≡◌, ℕ, zero, suc, ◌+◌, ◌*◌, ◌≤◌, ◌<◌, ◌^◌, min, max, ℤ, pos, negsuc, ◌≤ℤ◌, ◌<ℤ◌, List, [], ◌∷◌, ◌++◌, length, refl, sym, ap, ◌∙◌, subst, arith, Bool, true, false}
use Rattle.std.specs.Prelude.{flat_map, Option, Some, None, if◌then◌else◌}
use Rattle.std.proofs.lemmas.Int.{ints}
use Rattle.affine_expr.specs.Spread.{Range, Within}
use Rattle.affine_ast.specs.declared.image.Image.{Image}
use Rattle.affine_ast.specs.declared.module.Module.{Module}
use Rattle.affine_ast.specs.declared.name.Name.{Name}
use Rattle.affine_ast.specs.declared.types.Access.{Access}
use Rattle.affine_ast.specs.declared.types.MemrefType.{MemrefType}
use Rattle.affine_ast.specs.declared.types.Scalar.{Scalar}
use Rattle.affine_ast.specs.declared.types.Scalar.TheVariants as scalar
use Rattle.affine_ast.specs.Names.{put}
use Rattle.affine_ast.specs.Nest.{Plain, Nest, Nothing, Loop, Branch, Does, Value, Load, Store, RawLoad, RawStore, Constant, Binary, Cast, Alloc, Dealloc, Start, Wait, Return, nest}
use Rattle.affine_ast.specs.Validity.{IsValid}
use Rattle.bus_model.specs.declared.step.FaultKind.TheVariants.{Bounds, Shape}
use Rattle.bus_model.specs.declared.transfer.Transfer.{Transfer}
use Rattle.direct_meaning.specs.Action.{Home, SlowMemref, FastMemref, TagMemref, Place, Slow, Fast, Outside, Action, Allocates, AllocatesTags, Starts, Faults}
use Rattle.direct_meaning.specs.Actions.{half_cells, is_fast, alloc_of, dealloc_of, constant_of, Layout, layout_of, has_shape, started, transfer_of, start_between, start_of, wait_of, action_of, after_plain, behind, actions}
use Rattle.direct_meaning.specs.Bounded.{TurnsBounded}
use Rattle.direct_meaning.specs.Memory.{Fits, start_env, module_actions}
use Rattle.direct_meaning.specs.Static.{Env, knows, number, product, tag_of, lower_of, upper_of, holds_at}
use Rattle.direct_meaning.specs.Transfers.{ends_by}
use Rattle.direct_meaning.specs.Turns.{gap, turns}
use Rattle.direct_meaning.specs.Work.{Ranges, first_turn, last_end, turn_range, turn_count, ranges_after, plain_work, full_work, start_ranges, work}
use Rattle.direct_meaning.proofs.RangesHold.{affine_bounded, start_in}
use Rattle.direct_meaning.proofs.WorkLaws.{Every, Between, all_between}
use Rattle.valid_laws.proofs.Passing.{valid_affine}
use Rattle.run_laws.specs.StaysWithin.{InIntervals, StaysWithin}
use Rattle.run_laws.proofs.Within.{stays_within}
use Rattle.prompt_laws.specs.Costs.{cost, costs}

costs_append : (xs ys : List Action) → costs (xs ++ ys) ≡ costs xs + costs ys
costs_append [] ys = omega arith
costs_append (a ∷ xs) ys = let k = costs_append xs ys in omega (arith, k)

costs_flat : (a b : ℤ) (f : ℤ → List Action) (k : ℕ) → ((t : ℤ) → a ≤ℤ t → t <ℤ b → costs (f t) ≤ k) → (ts : List ℤ) → Every (Between a b) ts → costs (flat_map f ts) ≤ length ts * k
costs_flat a b f k h [] e = omega arith
costs_flat a b f k h (t ∷ ts) e = omega (arith, costs_append (f t) (flat_map f ts), h t e.0.0 e.0.1, costs_flat a b f k h ts e.1)

times : (a b c d : ℕ) → a ≤ b → c ≤ d → a * c ≤ b * max 1 d
times a b c d p q = grind arith

either : (t : Bool) (xs ys : List Action) (a b : ℕ) → costs xs ≤ a → costs ys ≤ b → costs (if t then xs else ys) ≤ a + b
either true xs ys a b p q = omega arith
either false xs ys a b p q = omega arith

-- ---- a start

started_cost : (t : Transfer) (end cells : ℕ) → cost (started t end cells) ≤ t.count + 3
started_cost t end cells = by (ends_by t end) (has_shape t cells)
  where
    by : (a b : Bool) → cost (if a then (if b then Starts t else Faults Shape) else Faults Bounds) ≤ t.count + 3
    by true true = omega arith
    by true false = omega arith
    by false b = omega arith

transfer_cost : (incoming : Bool) (memref first : ℕ) (slow fast : MemrefType) (y : Layout) (a b : Place) (tag : Option ℕ) → cost (transfer_of incoming memref first slow fast y a b tag) ≤ y.count + 3
transfer_cost incoming memref first slow fast y (Slow base) (Fast n h c) (Some tag) = started_cost (record { incoming = incoming; tag = tag; memref = memref; base = base; stride = y.stride; chunk = y.chunk; count = y.count; fast = n; half = h; offset = c }) (first + product slow.sizes) (half_cells fast.sizes)
transfer_cost incoming memref first slow fast y (Slow base) (Fast n h c) None = omega arith
transfer_cost incoming memref first slow fast y (Slow base) (Slow q) tag = omega arith
transfer_cost incoming memref first slow fast y (Slow base) Outside tag = omega arith
transfer_cost incoming memref first slow fast y (Fast n h c) b tag = omega arith
transfer_cost incoming memref first slow fast y Outside b tag = omega arith

between_cost : (f g : Option Home) (a b : Place) (s t : MemrefType) (y : Layout) (tag : Option ℕ) → cost (start_between f g a b s t y tag) ≤ y.count + 3
between_cost (Some (SlowMemref m first)) g a b s t y tag = transfer_cost true m first s t y a b tag
between_cost (Some (FastMemref n)) (Some (SlowMemref m first)) a b s t y tag = transfer_cost false m first t s y b a tag
between_cost (Some (FastMemref n)) (Some (FastMemref m)) a b s t y tag = omega arith
between_cost (Some (FastMemref n)) (Some (TagMemref m)) a b s t y tag = omega arith
between_cost (Some (FastMemref n)) None a b s t y tag = omega arith
between_cost (Some (TagMemref n)) (Some (SlowMemref m first)) a b s t y tag = transfer_cost false m first t s y b a tag
between_cost (Some (TagMemref n)) (Some (FastMemref m)) a b s t y tag = omega arith
between_cost (Some (TagMemref n)) (Some (TagMemref m)) a b s t y tag = omega arith
between_cost (Some (TagMemref n)) None a b s t y tag = omega arith
between_cost None (Some (SlowMemref m first)) a b s t y tag = transfer_cost false m first t s y b a tag
between_cost None (Some (FastMemref m)) a b s t y tag = omega arith
between_cost None (Some (TagMemref m)) a b s t y tag = omega arith
between_cost None None a b s t y tag = omega arith

start_cost : (e : Env) (a : Name) (a_at : Access) (b : Name) (b_at : Access) (t : Name) (t_at : Access) (y : Layout) (types : List MemrefType) → cost (start_of e a a_at b b_at t t_at y types) ≤ y.count + 3
start_cost e a a_at b b_at t t_at y (p ∷ q ∷ r ∷ []) = between_cost (e.home a) (e.home b) _ _ p q y _
start_cost e a a_at b b_at t t_at y [] = omega arith
start_cost e a a_at b b_at t t_at y (p ∷ []) = omega arith
start_cost e a a_at b b_at t t_at y (p ∷ q ∷ []) = omega arith
start_cost e a a_at b b_at t t_at y (p ∷ q ∷ r ∷ s ∷ more) = omega arith

layout_count : (e : Env) (n : Name) (stride : Option (Name × Name)) → (layout_of e n stride).count ≡ gap (number (e.known n))
layout_count e n None = refl
layout_count e n (Some two) = refl

-- a known count is no more than the greatest of its range
gap_grows : (a b : ℤ) → a ≤ℤ b → gap a ≤ gap b
gap_grows (pos a) (pos b) h = omega (arith, ints, h)
gap_grows (pos a) (negsuc b) h = omega (arith, ints, h)
gap_grows (negsuc a) b h = omega arith

count_within : (o : Option ℤ) (r : Range) → ((z : ℤ) → o ≡ Some z → Within z r) → gap (number o) ≤ gap r.greatest
count_within None r f = omega arith
count_within (Some z) r f = gap_grows z r.greatest (f z refl).high

-- ---- a plain statement

alloc_cost : (e : Env) (ty : MemrefType) → cost (alloc_of e ty) ≤ 1
alloc_cost e ty = by (is_fast ty)
  where
    by : (t : Bool) → cost (if t then Allocates e.fasts ty.element ty.sizes else AllocatesTags e.tags (product ty.sizes)) ≤ 1
    by true = omega arith
    by false = omega arith

dealloc_cost : (home : Option Home) (ty : MemrefType) → cost (dealloc_of home ty) ≤ 1
dealloc_cost (Some (FastMemref n)) ty = omega arith
dealloc_cost (Some (TagMemref first)) ty = omega arith
dealloc_cost (Some (SlowMemref n first)) ty = omega arith
dealloc_cost None ty = omega arith

constant_cost : (r : Name) (z : ℤ) (s : Scalar) → cost (constant_of r z s) ≤ 1
constant_cost r z (scalar.Int e) = omega arith
constant_cost r z scalar.Index = omega arith

wait_cost : (tag : Option ℕ) (count : ℕ) → cost (wait_of tag count) ≤ 1
wait_cost (Some tag) count = omega arith
wait_cost None count = omega arith

plain_cost : (p : Plain) (e : Env) (rho : Ranges) → InIntervals e rho → cost (action_of p e) ≤ plain_work p rho
unfolding action_of
plain_cost (Value r pick at) e rho h = omega arith
plain_cost (Load r m at ty) e rho h = omega arith
plain_cost (Store x m at ty) e rho h = omega arith
plain_cost (RawLoad r m at ty) e rho h = omega arith
plain_cost (RawStore x m at ty) e rho h = omega arith
plain_cost (Constant r z ty) e rho h = constant_cost r z ty
plain_cost (Binary r op a b ty) e rho h = omega arith
plain_cost (Cast r kind x from to) e rho h = omega arith
plain_cost (Alloc r ty) e rho h = alloc_cost e ty
plain_cost (Dealloc m ty) e rho h = dealloc_cost (e.home m) ty
plain_cost (Start a a_at b b_at t t_at n stride types) e rho h =
    let k = start_cost e a a_at b b_at t t_at (layout_of e n stride) types in
    let c = layout_count e n stride in
    let w = count_within (e.known n) (rho n) (λ z is. h n z is) in
    omega (arith, k, c, w)
plain_cost (Wait t at n ty) e rho h = wait_cost (tag_of e t at ty) (gap (number (e.known n)))
plain_cost Return e rho h = omega arith

-- ---- a text

pub costs_bounds : (n : Nest) (e : Env) (rho : Ranges) → TurnsBounded n e rho → StaysWithin n e rho → costs (actions n e) ≤ full_work n rho
unfolding actions full_work
costs_bounds Nothing e rho h k = omega arith
costs_bounds (Loop line v l u s body rest) e rho h k =
    let inner = put rho v (turn_range (first_turn rho l) (last_end rho u)) in
    let ts = turns (lower_of e l) (upper_of e u) s in
    let count = turn_count (first_turn rho l) (last_end rho u) s in
    let each = costs_flat (lower_of e l) (upper_of e u) (λ t. actions body (knows e v t)) (full_work body inner) (λ t low high. costs_bounds body (knows e v t) inner (h.1 t low high) (k.3 t low high)) ts (all_between (lower_of e l) (upper_of e u) s) in
    omega (
      arith,
      costs_append (flat_map (λ t. actions body (knows e v t)) ts) (actions rest (behind body e)),
      each,
      times (length ts) count (full_work body inner) (full_work body inner) h.0 (omega arith),
      costs_bounds rest (behind body e) rho h.2 k.4,
    )
costs_bounds (Branch line set names first has other rest) e rho h k =
    let middle = behind first e in
    let last = behind other middle in
    let chosen = if holds_at e set names then actions first e else actions other middle in
    omega (
      arith,
      costs_append chosen (actions rest last),
      either (holds_at e set names) (actions first e) (actions other middle) (full_work first rho) (full_work other rho) (costs_bounds first e rho h.0 k.2) (costs_bounds other middle rho h.1 k.3),
      costs_bounds rest last rho h.2 k.4,
    )
costs_bounds (Does line p rest) e rho h k = omega (arith, plain_cost p e rho k.0, costs_bounds rest (after_plain p e) (ranges_after p rho) h k.2)

pub within_work : (m : Module) → IsValid m → (memory : Image) → Fits m memory → work m < 2 ^ 127 → costs (module_actions m memory.symbols) ≤ work m
unfolding module_actions work
within_work m valid memory fits less =
    let b = costs_bounds (nest m.body) (start_env m.args memory.symbols) (start_ranges m.args) (affine_bounded (nest m.body) (start_env m.args memory.symbols) (start_ranges m.args) (valid_affine m valid) (start_in m memory fits)) (stays_within m valid memory fits) in
    omega (arith, b, less)
