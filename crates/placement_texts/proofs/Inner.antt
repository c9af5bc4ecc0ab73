-- From the statements of a text to its actions: what holds of each action of the loop, which the run of the copies needs.
use Rattle.std.proofs.Common.{◌≡◌, ℕ, ◌+◌, ◌-◌, ℤ, List, [], ◌∷◌, ◌++◌, refl, sym, ap, ◌∙◌, subst, arith, Bool, true, false}
use Rattle.std.specs.Prelude.{flat_map, Option, Some, None, if◌then◌else◌}
use Rattle.bus_model.specs.declared.step.FaultKind.TheVariants.{Bounds, Shape}
use Rattle.bus_model.specs.declared.transfer.Transfer.{Transfer}
use Rattle.affine_ast.specs.declared.name.Name.{Name}
use Rattle.affine_ast.specs.declared.types.Access.{Access}
use Rattle.affine_ast.specs.declared.types.MemrefType.{MemrefType}
use Rattle.affine_ast.specs.declared.types.Scalar.{Scalar}
use Rattle.affine_ast.specs.declared.types.Scalar.TheVariants.{Int, Index}
use Rattle.affine_ast.specs.Names.{same_name}
use Rattle.affine_ast.specs.Nest.{Plain, Nest, Nothing, Loop, Branch, Does, Value, Load, Store, RawLoad, RawStore, Constant, Binary, Cast, Alloc, Dealloc, Start, Wait, Return}
use Rattle.affine_ast.proofs.Names.{same_name-eq}
use Rattle.direct_meaning.specs.Turns.{gap, turns}
use Rattle.direct_meaning.specs.Transfers.{ends_by}
use Rattle.direct_meaning.specs.Action.{Home, SlowMemref, FastMemref, TagMemref, Place, Slow, Fast, Outside, Action, Loads, Stores, Allocates, AllocatesTags, Starts, Faults}
use Rattle.direct_meaning.specs.Static.{Env, knows, number, product, tag_of, results_of, cell_in, slow_at, place_at, place_of, lower_of, upper_of, holds_at}
use Rattle.direct_meaning.specs.Actions.{constant_of, is_fast, dealloc_of, half_cells, Layout, layout_of, has_shape, started, transfer_of, start_between, start_of, wait_of, action_of, after_plain, behind, actions}
use Rattle.boxes.specs.Boxes.{Side}
use Rattle.placement_texts.specs.Boxes.{sizes_of, InBox, box_cell, is_of}
use Rattle.boxes.specs.Every.{Every}
use Rattle.placement_texts.specs.Each.{Each}
use Rattle.placement_texts.specs.Regions.{Reaches, ReachesBox, Elsewhere, Apart}
use Rattle.placement_texts.proofs.Everys.{every_along}
use Rattle.placement_texts.proofs.Cells.{HasCell, has_cell, cell_moved}

every_append : {A : Type 0} (Q : A → Type 0) (xs ys : List A) → Every Q xs → Every Q ys → Every Q (xs ++ ys)
every_append Q [] ys h k = k
every_append Q (x ∷ xs) ys h k = (h.0, every_append Q xs ys h.1 k)

every_flat : {A B : Type 0} (Q : B → Type 0) (f : A → List B) (xs : List A) → Every (λ x. Every Q (f x)) xs → Every Q (flat_map f xs)
every_flat Q f [] h = tt
every_flat Q f (x ∷ xs) h = every_append Q (f x) (flat_map f xs) h.0 (every_flat Q f xs h.1)

module _ (P : Plain → Env → Type 0) (Q : Action → Type 0) (one : (q : Plain) (e : Env) → P q e → Q (action_of q e)) where
  chosen : (t : Bool) (xs ys : List Action) → (t ≡ true → Every Q xs) → (t ≡ false → Every Q ys) → Every Q (if t then xs else ys)
  chosen true xs ys h k = h refl
  chosen false xs ys h k = k refl

  pub each_action : (n : Nest) (e : Env) → Each P n e → Every Q (actions n e)
  unfolding actions
  each_action Nothing e h = tt
  each_action (Loop line v l u step body rest) e h =
      let ts = turns (lower_of e l) (upper_of e u) step in
      every_append Q (flat_map (λ t. actions body (knows e v t)) ts) (actions rest (behind body e))
      (every_flat Q (λ t. actions body (knows e v t)) ts (every_along (λ t. Each P body (knows e v t)) (λ t. Every Q (actions body (knows e v t))) (λ t j. each_action body (knows e v t) j) ts h.0))
      (each_action rest (behind body e) h.1)
  each_action (Branch line set ns first has other rest) e h =
      every_append Q (if holds_at e set ns then actions first e else actions other (behind first e)) (actions rest (behind other (behind first e)))
      (chosen (holds_at e set ns) (actions first e) (actions other (behind first e)) (λ t. each_action first e (h.0 t)) (λ t. each_action other (behind first e) (h.1 t)))
      (each_action rest (behind other (behind first e)) h.2)
  each_action (Does line q rest) e h = (one q e h.0, each_action rest (after_plain q e) h.1)

-- an action that goes to a place of the memref goes to one in the box
module _ (m : Name) (order first : ℕ) (spans : List Side) where
  abbrev pub PlaceInBox : Place → Type 0
  PlaceInBox (Slow p) = is_of first (sizes_of spans) p ≡ true → HasCell (box_cell spans (p - first))
  PlaceInBox (Fast n h c) = Unit {0}
  PlaceInBox Outside = Unit {0}

  abbrev pub StaysInBox : Action → Type 0
  StaysInBox (Loads r place) = PlaceInBox place
  StaysInBox (Stores x place) = PlaceInBox place
  StaysInBox q = Unit {0}

  at_cell : (o : Option ℕ) (zs : List ℤ) → cell_in (sizes_of spans) zs ≡ o → ((k : ℕ) → cell_in (sizes_of spans) zs ≡ Some k → InBox spans zs) → PlaceInBox (slow_at first o)
  at_cell (Some k) zs e inside =
      let c = has_cell spans zs (inside k e) in
      let back : first + k - first ≡ k = omega arith in
      λ is. record { cell = c.cell; is = ap (box_cell spans) back ∙ cell_moved spans zs k e ∙ c.is }
  at_cell None zs e inside = tt

  elsewhere : (x : Place) → ((p : ℕ) → x ≡ Slow p → is_of first (sizes_of spans) p ≡ false) → PlaceInBox x
  elsewhere (Slow p) h = λ is. let z : true ≡ false = sym is ∙ h p refl in absurd (cc)
  elsewhere (Fast n h c) k = tt
  elsewhere Outside k = tt

  access_in : (t : Bool) (n : Name) (at : Access) (ty : MemrefType) (e : Env) → same_name m n ≡ t → (same_name m n ≡ true → Reaches m order first spans e at ty) → (same_name m n ≡ false → Elsewhere m first (sizes_of spans) e n at ty) → PlaceInBox (place_of e n at ty)
  unfolding place_of
  access_in true n at ty e is h k =
      let r = h is in
      let same : place_at (e.home n) ty.sizes (results_of e at) ≡ slow_at first (cell_in (sizes_of spans) (results_of e at)) =
      ap (λ x. place_at (e.home x) ty.sizes (results_of e at)) (sym (same_name-eq m n is)) ∙ (λ i. place_at (r.home i) (r.sizes i) (results_of e at)) in
      subst PlaceInBox (sym same) (at_cell (cell_in (sizes_of spans) (results_of e at)) (results_of e at) refl r.inside)
  access_in false n at ty e is h k = elsewhere (place_of e n at ty) (k is)

  abbrev pub Both : Plain → Env → Type 0
  Both q e = Apart m first (sizes_of spans) q e × ReachesBox m order first spans q e

  constant_in : (r : Name) (z : ℤ) (ty : Scalar) → StaysInBox (constant_of r z ty)
  constant_in r z (Int element) = tt
  constant_in r z Index = tt

  if_in : (t : Bool) (x y : Action) → StaysInBox x → StaysInBox y → StaysInBox (if t then x else y)
  if_in true x y h k = h
  if_in false x y h k = k

  dealloc_in : (home : Option Home) (ty : MemrefType) → StaysInBox (dealloc_of home ty)
  dealloc_in (Some (FastMemref n)) ty = tt
  dealloc_in (Some (TagMemref n)) ty = tt
  dealloc_in (Some (SlowMemref k n)) ty = tt
  dealloc_in None ty = tt

  wait_in : (tag : Option ℕ) (count : ℕ) → StaysInBox (wait_of tag count)
  wait_in (Some tag) count = tt
  wait_in None count = tt

  started_by : (b c : Bool) (t : Transfer) → StaysInBox (if b then (if c then Starts t else Faults Shape) else Faults Bounds)
  started_by true true t = tt
  started_by true false t = tt
  started_by false c t = tt

  started_in : (t : Transfer) (end cells : ℕ) → StaysInBox (started t end cells)
  started_in t end cells = started_by (ends_by t end) (has_shape t cells) t

  transfer_in : (incoming : Bool) (k f : ℕ) (slow fast : MemrefType) (layout : Layout) (a b : Place) (tag : Option ℕ) → StaysInBox (transfer_of incoming k f slow fast layout a b tag)
  transfer_in incoming k f slow fast layout (Slow base) (Fast number half cell) (Some tag) = started_in _ (f + product slow.sizes) (half_cells fast.sizes)
  transfer_in incoming k f slow fast layout (Slow base) (Fast number half cell) None = tt
  transfer_in incoming k f slow fast layout (Slow base) (Slow p) tag = tt
  transfer_in incoming k f slow fast layout (Slow base) Outside tag = tt
  transfer_in incoming k f slow fast layout (Fast n h c) b tag = tt
  transfer_in incoming k f slow fast layout Outside b tag = tt

  between_in : (from to : Option Home) (a b : Place) (from_ty to_ty : MemrefType) (layout : Layout) (tag : Option ℕ) → StaysInBox (start_between from to a b from_ty to_ty layout tag)
  between_in (Some (SlowMemref k f)) to a b from_ty to_ty layout tag = transfer_in true k f from_ty to_ty layout a b tag
  between_in (Some (FastMemref n)) (Some (SlowMemref k f)) a b from_ty to_ty layout tag = transfer_in false k f to_ty from_ty layout b a tag
  between_in (Some (TagMemref n)) (Some (SlowMemref k f)) a b from_ty to_ty layout tag = transfer_in false k f to_ty from_ty layout b a tag
  between_in None (Some (SlowMemref k f)) a b from_ty to_ty layout tag = transfer_in false k f to_ty from_ty layout b a tag
  between_in (Some (FastMemref n)) (Some (FastMemref k)) a b from_ty to_ty layout tag = tt
  between_in (Some (FastMemref n)) (Some (TagMemref k)) a b from_ty to_ty layout tag = tt
  between_in (Some (FastMemref n)) None a b from_ty to_ty layout tag = tt
  between_in (Some (TagMemref n)) (Some (FastMemref k)) a b from_ty to_ty layout tag = tt
  between_in (Some (TagMemref n)) (Some (TagMemref k)) a b from_ty to_ty layout tag = tt
  between_in (Some (TagMemref n)) None a b from_ty to_ty layout tag = tt
  between_in None (Some (FastMemref k)) a b from_ty to_ty layout tag = tt
  between_in None (Some (TagMemref k)) a b from_ty to_ty layout tag = tt
  between_in None None a b from_ty to_ty layout tag = tt

  start_in : (e : Env) (x : Name) (x_at : Access) (y : Name) (y_at : Access) (t : Name) (t_at : Access) (layout : Layout) (types : List MemrefType) → StaysInBox (start_of e x x_at y y_at t t_at layout types)
  start_in e x x_at y y_at t t_at layout (a_ty ∷ b_ty ∷ t_ty ∷ []) = between_in (e.home x) (e.home y) (place_of e x x_at a_ty) (place_of e y y_at b_ty) a_ty b_ty layout (tag_of e t t_at t_ty)
  start_in e x x_at y y_at t t_at layout [] = tt
  start_in e x x_at y y_at t t_at layout (a_ty ∷ []) = tt
  start_in e x x_at y y_at t t_at layout (a_ty ∷ b_ty ∷ []) = tt
  start_in e x x_at y y_at t t_at layout (a_ty ∷ b_ty ∷ t_ty ∷ u_ty ∷ types) = tt

  statement_in : (q : Plain) (e : Env) → Both q e → StaysInBox (action_of q e)
  unfolding action_of
  statement_in (Load r n at ty) e h = access_in (same_name m n) n at ty e refl h.1 h.0
  statement_in (Store x n at ty) e h = access_in (same_name m n) n at ty e refl h.1 h.0
  statement_in (Value r pick at) e h = tt
  statement_in (RawLoad r n at ty) e h = tt
  statement_in (RawStore x n at ty) e h = tt
  statement_in (Constant r z ty) e h = constant_in r z ty
  statement_in (Binary r op x y ty) e h = tt
  statement_in (Cast r kind x from to) e h = tt
  statement_in (Alloc r ty) e h = if_in (is_fast ty) (Allocates e.fasts ty.element ty.sizes) (AllocatesTags e.tags (product ty.sizes)) tt tt
  statement_in (Dealloc n ty) e h = dealloc_in (e.home n) ty
  statement_in (Start x x_at y y_at t t_at n stride types) e h = start_in e x x_at y y_at t t_at (layout_of e n stride) types
  statement_in (Wait t at n ty) e h = wait_in (tag_of e t at ty) (gap (number (e.known n)))
  statement_in Return e h = tt

  pub actions_in_box : (n : Nest) (e : Env) → Each Both n e → Every StaysInBox (actions n e)
  actions_in_box n e h = each_action Both StaysInBox statement_in n e h
