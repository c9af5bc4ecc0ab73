-- No run of a text has more live bytes than the text's peak.
use Rattle.std.proofs.Common.{◌≡◌, ℕ, ◌+◌, ◌-◌, ◌≤◌, max, ℤ, List, [], ◌∷◌, ◌++◌, refl, sym, ap, ◌∙◌, subst, arith, Bool, true, false}
use Rattle.std.specs.Prelude.{flat_map, Option, Some, None, if◌then◌else◌}
use Rattle.affine_ast.specs.declared.name.Name.{Name}
use Rattle.affine_ast.specs.declared.types.Access.{Access}
use Rattle.affine_ast.specs.declared.types.MemrefType.{MemrefType}
use Rattle.affine_ast.specs.declared.types.Scalar.{Scalar}
use Rattle.affine_ast.specs.declared.types.Scalar.TheVariants.{Int, Index}
use Rattle.affine_ast.specs.Nest.{Plain, Nest, Nothing, Loop, Branch, Does, Value, Load, Store, RawLoad, RawStore, Constant, Binary, Cast, Alloc, Dealloc, Start, Wait, Return}
use Rattle.bus_model.specs.declared.step.FaultKind.TheVariants.{Bounds, Shape}
use Rattle.bus_model.specs.declared.transfer.Transfer.{Transfer}
use Rattle.direct_meaning.specs.Turns.{turns}
use Rattle.direct_meaning.specs.Transfers.{ends_by}
use Rattle.direct_meaning.specs.Action.{Home, SlowMemref, FastMemref, TagMemref, Place, Slow, Fast, Outside, Action, Allocates, AllocatesTags, Starts, Faults}
use Rattle.direct_meaning.specs.Static.{Env, knows, product, tag_of, lower_of, upper_of, holds_at}
use Rattle.direct_meaning.specs.Actions.{half_cells, is_fast, alloc_of, dealloc_of, constant_of, Layout, layout_of, has_shape, started, transfer_of, start_between, start_of, wait_of, action_of, after_plain, behind, actions}
use Rattle.prompt_semantics.specs.Device.{bytes_of}
use Rattle.box_run_laws.specs.Roomy.{live_by, most_live}
use Rattle.box_run_laws.specs.Peaks.{fast_bytes, plain_live, live_after, peak_of, AreEven, HomeIs, PlainMatches, Matches}

-- the live bytes behind a list of actions
abbrev pub lives : List Action → ℕ → ℕ
lives [] l = l
lives (a ∷ xs) l = lives xs (live_by a l)

lives_append : (xs ys : List Action) (l : ℕ) → lives (xs ++ ys) l ≡ lives ys (lives xs l)
lives_append [] ys l = refl
lives_append (a ∷ xs) ys l = lives_append xs ys (live_by a l)

first_most : (xs : List Action) (l : ℕ) → l ≤ most_live xs l
first_most [] l = omega arith
first_most (a ∷ xs) l = omega arith

most_append : (xs ys : List Action) (l : ℕ) → most_live (xs ++ ys) l ≡ max (most_live xs l) (most_live ys (lives xs l))
most_append [] ys l = let f = first_most ys l in omega (arith, f)
most_append (a ∷ xs) ys l = let e = most_append xs ys (live_by a l) in omega (arith, e)

-- ---- one statement
live_alloc : (e : Env) (ty : MemrefType) (l : ℕ) → live_by (alloc_of e ty) l ≡ l + fast_bytes ty
live_alloc e ty l = by (is_fast ty)
  where
    by : (t : Bool) → live_by (if t then Allocates e.fasts ty.element ty.sizes else AllocatesTags e.tags (product ty.sizes)) l ≡ l + (if t then bytes_of ty.element ty.sizes else 0)
    by true = refl
    by false = omega arith

live_dealloc : (home : Option Home) (ty : MemrefType) (l : ℕ) → HomeIs home (is_fast ty) → live_by (dealloc_of home ty) l ≡ l - fast_bytes ty
live_dealloc (Some (FastMemref n)) ty l h = ap (λ t. l - (if t then bytes_of ty.element ty.sizes else 0)) (sym h)
live_dealloc (Some (TagMemref first)) ty l h = (let z : l ≡ l - 0 = omega arith in z) ∙ ap (λ t. l - (if t then bytes_of ty.element ty.sizes else 0)) (sym h)
live_dealloc (Some (SlowMemref n first)) ty l h = (let z : l ≡ l - 0 = omega arith in z) ∙ ap (λ t. l - (if t then bytes_of ty.element ty.sizes else 0)) (sym h)
live_dealloc None ty l h = (let z : l ≡ l - 0 = omega arith in z) ∙ ap (λ t. l - (if t then bytes_of ty.element ty.sizes else 0)) (sym h)

live_constant : (r : Name) (z : ℤ) (s : Scalar) (l : ℕ) → live_by (constant_of r z s) l ≡ l
live_constant r z (Int e) l = refl
live_constant r z Index l = refl

live_started : (t : Transfer) (end cells l : ℕ) → live_by (started t end cells) l ≡ l
live_started t end cells l = by (ends_by t end) (has_shape t cells)
  where
    by : (a b : Bool) → live_by (if a then (if b then Starts t else Faults Shape) else Faults Bounds) l ≡ l
    by true true = refl
    by true false = refl
    by false b = refl

live_transfer : (incoming : Bool) (memref first : ℕ) (slow fast : MemrefType) (y : Layout) (a b : Place) (tag : Option ℕ) (l : ℕ) → live_by (transfer_of incoming memref first slow fast y a b tag) l ≡ l
live_transfer incoming memref first slow fast y (Slow base) (Fast n h c) (Some tag) l = live_started (record { incoming = incoming; tag = tag; memref = memref; base = base; stride = y.stride; chunk = y.chunk; count = y.count; fast = n; half = h; offset = c }) (first + product slow.sizes) (half_cells fast.sizes) l
live_transfer incoming memref first slow fast y (Slow base) (Fast n h c) None l = refl
live_transfer incoming memref first slow fast y (Slow base) (Slow q) tag l = refl
live_transfer incoming memref first slow fast y (Slow base) Outside tag l = refl
live_transfer incoming memref first slow fast y (Fast n h c) b tag l = refl
live_transfer incoming memref first slow fast y Outside b tag l = refl

live_between : (f g : Option Home) (a b : Place) (s t : MemrefType) (y : Layout) (tag : Option ℕ) (l : ℕ) → live_by (start_between f g a b s t y tag) l ≡ l
live_between (Some (SlowMemref m first)) g a b s t y tag l = live_transfer true m first s t y a b tag l
live_between (Some (FastMemref n)) (Some (SlowMemref m first)) a b s t y tag l = live_transfer false m first t s y b a tag l
live_between (Some (FastMemref n)) (Some (FastMemref m)) a b s t y tag l = refl
live_between (Some (FastMemref n)) (Some (TagMemref m)) a b s t y tag l = refl
live_between (Some (FastMemref n)) None a b s t y tag l = refl
live_between (Some (TagMemref n)) (Some (SlowMemref m first)) a b s t y tag l = live_transfer false m first t s y b a tag l
live_between (Some (TagMemref n)) (Some (FastMemref m)) a b s t y tag l = refl
live_between (Some (TagMemref n)) (Some (TagMemref m)) a b s t y tag l = refl
live_between (Some (TagMemref n)) None a b s t y tag l = refl
live_between None (Some (SlowMemref m first)) a b s t y tag l = live_transfer false m first t s y b a tag l
live_between None (Some (FastMemref m)) a b s t y tag l = refl
live_between None (Some (TagMemref m)) a b s t y tag l = refl
live_between None None a b s t y tag l = refl

live_start : (e : Env) (a : Name) (a_at : Access) (b : Name) (b_at : Access) (t : Name) (t_at : Access) (y : Layout) (types : List MemrefType) (l : ℕ) → live_by (start_of e a a_at b b_at t t_at y types) l ≡ l
live_start e a a_at b b_at t t_at y (p ∷ q ∷ r ∷ []) l = live_between (e.home a) (e.home b) _ _ p q y _ l
live_start e a a_at b b_at t t_at y [] l = refl
live_start e a a_at b b_at t t_at y (p ∷ []) l = refl
live_start e a a_at b b_at t t_at y (p ∷ q ∷ []) l = refl
live_start e a a_at b b_at t t_at y (p ∷ q ∷ r ∷ s ∷ more) l = refl

live_wait : (tag : Option ℕ) (count l : ℕ) → live_by (wait_of tag count) l ≡ l
live_wait (Some tag) count l = refl
live_wait None count l = refl

live_plain : (p : Plain) (e : Env) (l : ℕ) → PlainMatches p e → live_by (action_of p e) l ≡ plain_live p l
unfolding action_of
live_plain (Value r pick at) e l h = refl
live_plain (Load r m at ty) e l h = refl
live_plain (Store x m at ty) e l h = refl
live_plain (RawLoad r m at ty) e l h = refl
live_plain (RawStore x m at ty) e l h = refl
live_plain (Constant r z ty) e l h = live_constant r z ty l
live_plain (Binary r op a b ty) e l h = refl
live_plain (Cast r kind x from to) e l h = refl
live_plain (Alloc r ty) e l h = live_alloc e ty l
live_plain (Dealloc m ty) e l h = live_dealloc (e.home m) ty l h
live_plain (Start a a_at b b_at t t_at n stride types) e l h = live_start e a a_at b b_at t t_at (layout_of e n stride) types l
live_plain (Wait t at n ty) e l h = live_wait (tag_of e t at ty) _ l
live_plain Return e l h = refl

-- ---- a text
first_peak : (n : Nest) (l : ℕ) → l ≤ peak_of n l
first_peak Nothing l = omega arith
first_peak (Loop line v low high s body rest) l = let f = first_peak rest l in omega (arith, f)
first_peak (Branch line set names first has other rest) l = let f = first_peak rest l in omega (arith, f)
first_peak (Does line p rest) l = omega arith

-- a list of actions that gives back what it takes, with a bound
pub record Within (xs : List Action) (l after most : ℕ) : Type 0 where
  pub behind_is : lives xs l ≡ after
  pub below : most_live xs l ≤ most

all_turns : (f : ℤ → List Action) (l most : ℕ) → l ≤ most → ((t : ℤ) → Within (f t) l l most) → (ts : List ℤ) → Within (flat_map f ts) l l most
all_turns f l most low h [] = record { behind_is = refl; below = low }
all_turns f l most low h (t ∷ ts) =
    let one = h t in
    let more = all_turns f l most low h ts in
    let e = one.behind_is in
    let a = one.below in
    let b = more.below in
    let m = most_append (f t) (flat_map f ts) l ∙ ap (λ k. max (most_live (f t) l) (most_live (flat_map f ts) k)) e in
    record { behind_is = lives_append (f t) (flat_map f ts) l ∙ ap (lives (flat_map f ts)) e ∙ more.behind_is; below = omega (arith, a, b, m) }

both_parts : (xs ys : List Action) (l after most more : ℕ) → Within xs l l most → Within ys l after more → Within (xs ++ ys) l after (max most more)
both_parts xs ys l after most more h k =
    let e = h.behind_is in
    let a = h.below in
    let b = k.below in
    let m = most_append xs ys l ∙ ap (λ j. max (most_live xs l) (most_live ys j)) e in
    record { behind_is = lives_append xs ys l ∙ ap (lives ys) e ∙ k.behind_is; below = omega (arith, a, b, m) }

wider : (xs : List Action) (l after most more : ℕ) → most ≤ more → Within xs l after most → Within xs l after more
wider xs l after most more h k = let b = k.below in record { behind_is = k.behind_is; below = omega (arith, h, b) }

pub peak_holds : (n : Nest) (e : Env) (l : ℕ) → AreEven n → Matches n e → Within (actions n e) l (live_after n l) (peak_of n l)
unfolding actions
peak_holds Nothing e l even m = record { behind_is = refl; below = omega arith }
peak_holds (Loop line v low high s body rest) e l even m =
    both_parts _ _ l (live_after rest l) (peak_of body l) (peak_of rest l)
    (all_turns (λ t. actions body (knows e v t)) l (peak_of body l) (first_peak body l)
    (λ t. let w = peak_holds body (knows e v t) l even.1 (m.0 t) in record { behind_is = w.behind_is ∙ even.0 l; below = w.below }) (turns (lower_of e low) (upper_of e high) s))
    (peak_holds rest (behind body e) l even.2 m.1)
peak_holds (Branch line set names first has other rest) e l even m =
    let one = peak_holds first e l even.2 m.0 in
    let two = peak_holds other (behind first e) l even.3 m.1 in
    let a : Within (actions first e) l l (peak_of first l) = record { behind_is = one.behind_is ∙ even.0 l; below = one.below } in
    let b : Within (actions other (behind first e)) l l (peak_of other l) = record { behind_is = two.behind_is ∙ even.1 l; below = two.below } in
    wider _ l (live_after rest l) (max (max (peak_of first l) (peak_of other l)) (peak_of rest l)) (max (peak_of first l) (max (peak_of other l) (peak_of rest l))) (omega arith)
    (both_parts _ _ l (live_after rest l) (max (peak_of first l) (peak_of other l)) (peak_of rest l) (either (holds_at e set names) a b)
    (peak_holds rest (behind other (behind first e)) l even.4 m.2))
  where
    either : (t : Bool) → Within (actions first e) l l (peak_of first l) → Within (actions other (behind first e)) l l (peak_of other l)
        → Within (if t then actions first e else actions other (behind first e)) l l (max (peak_of first l) (peak_of other l))
    either true a b = wider (actions first e) l l (peak_of first l) (max (peak_of first l) (peak_of other l)) (omega arith) a
    either false a b = wider (actions other (behind first e)) l l (peak_of other l) (max (peak_of first l) (peak_of other l)) (omega arith) b
peak_holds (Does line p rest) e l even m =
    let s = live_plain p e l m.0 in
    let w = subst (λ k. Within (actions rest (after_plain p e)) k (live_after rest (plain_live p l)) (peak_of rest (plain_live p l))) (sym s) (peak_holds rest (after_plain p e) (plain_live p l) even m.1) in
    let b = w.below in
    record { behind_is = w.behind_is; below = omega (arith, b) }

-- no run of a text has more live bytes than its peak
pub most_at_peak : (n : Nest) (e : Env) → AreEven n → Matches n e → most_live (actions n e) 0 ≤ peak_of n 0
most_at_peak n e even m = (peak_holds n e 0 even m).below
