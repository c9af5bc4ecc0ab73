-- From the statements of a text to its actions: what the run of the copies needs of each.
use Rattle.std.proofs.Common.{◌≡◌, inr, ℕ, ◌+◌, ◌<◌, List, [], ◌∷◌, map, refl, sym, ◌∙◌, subst, Bool, true, false}
use Rattle.std.specs.Prelude.{Option, Some, None, ℤ, if◌then◌else◌}
use Rattle.bus_model.specs.declared.step.FaultKind.{FaultKind}
use Rattle.bus_model.specs.declared.step.FaultKind.TheVariants.{Bounds, Shape}
use Rattle.bus_model.specs.declared.transfer.Transfer.{Transfer}
use Rattle.affine_ast.specs.declared.name.Name.{Name}
use Rattle.affine_ast.specs.declared.types.Access.{Access}
use Rattle.affine_ast.specs.declared.types.MemrefType.{MemrefType}
use Rattle.affine_ast.specs.declared.types.Scalar.{Scalar}
use Rattle.affine_ast.specs.declared.types.Scalar.TheVariants.{Int, Index}
use Rattle.affine_ast.specs.Names.{same_name}
use Rattle.affine_ast.specs.Nest.{Plain, Value, Load, Store, RawLoad, RawStore, Constant, Binary, Cast, Alloc, Dealloc, Start, Wait, Return}
use Rattle.direct_meaning.specs.Turns.{gap}
use Rattle.direct_meaning.specs.Transfers.{ends_by}
use Rattle.direct_meaning.specs.Action.{Home, SlowMemref, FastMemref, TagMemref, Place, Slow, Fast, Outside, Action, Allocates, AllocatesTags, Starts, Faults}
use Rattle.direct_meaning.specs.Static.{Env, number, product, operand_of, operand, tag_of, place_of}
use Rattle.direct_meaning.specs.Actions.{constant_of, is_fast, dealloc_of, half_cells, Layout, layout_of, has_shape, transfer_of, start_between, start_of, wait_of, action_of}
use Rattle.boxes.specs.Every.{Every}
use Rattle.placement_texts.specs.Boxes.{is_of}
use Rattle.placement_texts.specs.Labels.{Numbers}
use Rattle.placement_texts.specs.Own.{OwnNames, OwnPlain}
use Rattle.placement_texts.specs.Template.{Placement}
use Rattle.placement_texts.specs.Regions.{Elsewhere, Apart}
use Rattle.box_run_laws.specs.Layouts.{nowhere}
use Rattle.box_run_laws.specs.Layouts as run
use Rattle.box_run_laws.specs.Owned.{OwnOperand, OwnAction, OwnLoad, OwnStore, HomeWhere, FreeToLoad, FreeToStore}
use Rattle.staging_laws.specs.Joined.{numbering}
use Rattle.staging_laws.specs.Spared.{PlaceSpared, Spares, Keeps, Aside, ReleasedTogether}

-- ---- a start is a transfer, with the tag that it names, or a fault
pub data StartKind (tag : Option ℕ) (x : Action) : Type 0 where
  Begins : (t : Transfer) → x ≡ Starts t → tag ≡ Some t.tag → StartKind tag x
  Breaks : (k : FaultKind) → x ≡ Faults k → StartKind tag x

started_by : (b c : Bool) (t : Transfer) → StartKind (Some t.tag) (if b then (if c then Starts t else Faults Shape) else Faults Bounds)
started_by true true t = Begins t refl refl
started_by true false t = Breaks Shape refl
started_by false c t = Breaks Bounds refl

transfer_kind : (incoming : Bool) (k f : ℕ) (slow fast : MemrefType) (layout : Layout) (a b : Place) (tag : Option ℕ) → StartKind tag (transfer_of incoming k f slow fast layout a b tag)
transfer_kind incoming k f slow fast layout (Slow base) (Fast n half cell) (Some tag) =
    let t : Transfer = record { incoming = incoming; tag = tag; memref = k; base = base; stride = layout.stride; chunk = layout.chunk; count = layout.count; fast = n; half = half; offset = cell } in
    started_by (ends_by t (f + product slow.sizes)) (has_shape t (half_cells fast.sizes)) t
transfer_kind incoming k f slow fast layout (Slow base) (Fast n half cell) None = Breaks Bounds refl
transfer_kind incoming k f slow fast layout (Slow base) (Slow p) tag = Breaks Bounds refl
transfer_kind incoming k f slow fast layout (Slow base) Outside tag = Breaks Bounds refl
transfer_kind incoming k f slow fast layout (Fast n h c) b tag = Breaks Bounds refl
transfer_kind incoming k f slow fast layout Outside b tag = Breaks Bounds refl

between_kind : (from to : Option Home) (a b : Place) (from_ty to_ty : MemrefType) (layout : Layout) (tag : Option ℕ) → StartKind tag (start_between from to a b from_ty to_ty layout tag)
between_kind (Some (SlowMemref k f)) to a b from_ty to_ty layout tag = transfer_kind true k f from_ty to_ty layout a b tag
between_kind (Some (FastMemref n)) (Some (SlowMemref k f)) a b from_ty to_ty layout tag = transfer_kind false k f to_ty from_ty layout b a tag
between_kind (Some (TagMemref n)) (Some (SlowMemref k f)) a b from_ty to_ty layout tag = transfer_kind false k f to_ty from_ty layout b a tag
between_kind None (Some (SlowMemref k f)) a b from_ty to_ty layout tag = transfer_kind false k f to_ty from_ty layout b a tag
between_kind (Some (FastMemref n)) (Some (FastMemref k)) a b from_ty to_ty layout tag = Breaks Bounds refl
between_kind (Some (FastMemref n)) (Some (TagMemref k)) a b from_ty to_ty layout tag = Breaks Bounds refl
between_kind (Some (FastMemref n)) None a b from_ty to_ty layout tag = Breaks Bounds refl
between_kind (Some (TagMemref n)) (Some (FastMemref k)) a b from_ty to_ty layout tag = Breaks Bounds refl
between_kind (Some (TagMemref n)) (Some (TagMemref k)) a b from_ty to_ty layout tag = Breaks Bounds refl
between_kind (Some (TagMemref n)) None a b from_ty to_ty layout tag = Breaks Bounds refl
between_kind None (Some (FastMemref k)) a b from_ty to_ty layout tag = Breaks Bounds refl
between_kind None (Some (TagMemref k)) a b from_ty to_ty layout tag = Breaks Bounds refl
between_kind None None a b from_ty to_ty layout tag = Breaks Bounds refl

pub start_kind : (e : Env) (x : Name) (x_at : Access) (y : Name) (y_at : Access) (t : Name) (t_at : Access) (layout : Layout) (a_ty b_ty t_ty : MemrefType)
    → StartKind (tag_of e t t_at t_ty) (start_of e x x_at y y_at t t_at layout (a_ty ∷ b_ty ∷ t_ty ∷ []))
start_kind e x x_at y y_at t t_at layout a_ty b_ty t_ty = between_kind (e.home x) (e.home y) (place_of e x x_at a_ty) (place_of e y y_at b_ty) a_ty b_ty layout (tag_of e t t_at t_ty)

-- whatever holds of a fault, and of each transfer that the start can be
by_kind : (Q : Action → Type 0) (tag : Option ℕ) (x : Action) → StartKind tag x → ((k : FaultKind) → Q (Faults k)) → ((t : Transfer) → x ≡ Starts t → Q (Starts t)) → Q x
by_kind Q tag x (Begins t e k) faults starts = subst Q (sym e) (starts t e)
by_kind Q tag x (Breaks k e) faults starts = subst Q (sym e) (faults k)

start_by : (Q : Action → Type 0) (e : Env) (x : Name) (x_at : Access) (y : Name) (y_at : Access) (t : Name) (t_at : Access) (layout : Layout) (types : List MemrefType)
    → ((k : FaultKind) → Q (Faults k)) → ((z : Transfer) → start_of e x x_at y y_at t t_at layout types ≡ Starts z → Q (Starts z)) → Q (start_of e x x_at y y_at t t_at layout types)
start_by Q e x x_at y y_at t t_at layout (a_ty ∷ b_ty ∷ t_ty ∷ []) f s =
    by_kind Q (tag_of e t t_at t_ty) (start_of e x x_at y y_at t t_at layout (a_ty ∷ b_ty ∷ t_ty ∷ [])) (start_kind e x x_at y y_at t t_at layout a_ty b_ty t_ty) f s
start_by Q e x x_at y y_at t t_at layout [] f s = f Bounds
start_by Q e x x_at y y_at t t_at layout (a_ty ∷ []) f s = f Bounds
start_by Q e x x_at y y_at t t_at layout (a_ty ∷ b_ty ∷ []) f s = f Bounds
start_by Q e x x_at y y_at t t_at layout (a_ty ∷ b_ty ∷ t_ty ∷ u_ty ∷ types) f s = f Bounds

-- ---- names and tags
module _ (own : Name → Bool) (new : Numbers) where
  abbrev nu : run.Numbering
  nu = numbering new

  operand_own : (o : Option ℤ) (n : Name) → own n ≡ true → OwnOperand own nu (operand_of n o)
  operand_own (Some z) n h = tt
  operand_own None n h = h

  operands_own : (e : Env) (ns : List Name) → OwnNames own ns → Every (OwnOperand own nu) (map (operand e) ns)
  operands_own e [] h = tt
  operands_own e (n ∷ ns) h = (operand_own (e.known n) n h.0, operands_own e ns h.1)

  load_free : (x : Place) → OwnLoad own nu nowhere x
  load_free (Slow q) = ((λ c e. refl), (λ e. refl))
  load_free (Fast n h c) = tt
  load_free Outside = tt

  store_free : (x : Place) → OwnStore own nu nowhere x
  store_free (Slow q) = ((λ c e. absurd (let z : None ≡ Some c = e in cc)), (λ e. refl), tt)
  store_free (Fast n h c) = tt
  store_free Outside = tt

  raw_load_free : (o : Option Home) (sizes : List ℕ) → HomeWhere own nu (FreeToLoad own nu nowhere) o sizes
  raw_load_free (Some (SlowMemref number low)) sizes = λ k l. (refl, refl)
  raw_load_free (Some (FastMemref number)) sizes = tt
  raw_load_free (Some (TagMemref low)) sizes = tt
  raw_load_free None sizes = tt

  raw_store_free : (o : Option Home) (sizes : List ℕ) → HomeWhere own nu (FreeToStore own nu nowhere) o sizes
  raw_store_free (Some (SlowMemref number low)) sizes = λ k l. (refl, refl, tt)
  raw_store_free (Some (FastMemref number)) sizes = tt
  raw_store_free (Some (TagMemref low)) sizes = tt
  raw_store_free None sizes = tt

  constant_own : (r : Name) (z : ℤ) (ty : Scalar) → own r ≡ true → OwnAction own nu nowhere (constant_of r z ty)
  constant_own r z (Int e) h = h
  constant_own r z Index h = tt

  if_own : (b : Bool) (x y : Action) → OwnAction own nu nowhere x → OwnAction own nu nowhere y → OwnAction own nu nowhere (if b then x else y)
  if_own true x y h k = h
  if_own false x y h k = k

  dealloc_own : (o : Option Home) (m : Name) (ty : MemrefType) → ((first : ℕ) → o ≡ Some (TagMemref first) → (k : ℕ) → k < product ty.sizes → nu.tags (first + k) ≡ nu.tags first + k) → OwnAction own nu nowhere (dealloc_of o ty)
  dealloc_own (Some (FastMemref n)) m ty h = tt
  dealloc_own (Some (TagMemref n)) m ty h = h n refl
  dealloc_own (Some (SlowMemref k n)) m ty h = tt
  dealloc_own None m ty h = tt

  wait_own : (tag : Option ℕ) (count : ℕ) → OwnAction own nu nowhere (wait_of tag count)
  wait_own (Some tag) count = tt
  wait_own None count = tt

  abbrev pub OwnStatement : Plain → Env → Type 0
  OwnStatement q e = OwnPlain own q × ReleasedTogether new q e

  pub own_action : (q : Plain) (e : Env) → OwnStatement q e → OwnAction own nu nowhere (action_of q e)
  unfolding action_of
  own_action (Value r pick at) e h = tt
  own_action (Load r m at ty) e h = (h.0.0, load_free (place_of e m at ty))
  own_action (Store x m at ty) e h = (operand_own (e.known x) x h.0.0, store_free (place_of e m at ty))
  own_action (RawLoad r m at ty) e h = (h.0.0, raw_load_free (e.home m) ty.sizes, operands_own e at h.0.2)
  own_action (RawStore x m at ty) e h = (operand_own (e.known x) x h.0.0, raw_store_free (e.home m) ty.sizes, operands_own e at h.0.2)
  own_action (Constant r z ty) e h = constant_own r z ty h.0
  own_action (Binary r op a b ty) e h = (h.0.0, operand_own (e.known a) a h.0.1, operand_own (e.known b) b h.0.2)
  own_action (Cast r kind x from to) e h = (h.0.0, operand_own (e.known x) x h.0.1)
  own_action (Alloc r ty) e h = if_own (is_fast ty) (Allocates e.fasts ty.element ty.sizes) (AllocatesTags e.tags (product ty.sizes)) tt tt
  own_action (Dealloc m ty) e h = dealloc_own (e.home m) m ty h.1
  own_action (Start a a_at b b_at t t_at n stride types) e h =
      start_by (OwnAction own nu nowhere) e a a_at b b_at t t_at (layout_of e n stride) types (λ k. tt) (λ z s. (inr (λ j l. refl), refl, λ i. tt))
  own_action (Wait t at n ty) e h = wait_own (tag_of e t at ty) (gap (number (e.known n)))
  own_action Return e h = tt

-- ---- the memref
module _ (p : Placement) (first : ℕ) (sizes : List ℕ) where
  abbrev pub SparedStatement : Plain → Env → Type 0
  SparedStatement q e = Apart p.memref first sizes q e × (Aside p.memref first sizes q e × Keeps p q)

  access_spared : (t : Bool) (n : Name) (at : Access) (ty : MemrefType) (e : Env) (allowed : Bool) → same_name p.memref n ≡ t → (same_name p.memref n ≡ false → Elsewhere p.memref first sizes e n at ty) → (same_name p.memref n ≡ true → allowed ≡ true) → PlaceSpared first sizes allowed (place_of e n at ty)
  access_spared true n at ty e allowed is h k = always (place_of e n at ty) (k is)
    where
      always : (x : Place) → allowed ≡ true → PlaceSpared first sizes allowed x
      always (Slow q) a = λ i. a
      always (Fast m g c) a = tt
      always Outside a = tt
  access_spared false n at ty e allowed is h k = elsewhere (place_of e n at ty) (h is)
    where
      elsewhere : (x : Place) → ((q : ℕ) → x ≡ Slow q → is_of first sizes q ≡ false) → PlaceSpared first sizes allowed x
      elsewhere (Slow q) away = λ i. absurd (let z : true ≡ false = sym i ∙ away q refl in cc)
      elsewhere (Fast m g c) away = tt
      elsewhere Outside away = tt

  constant_spares : (r : Name) (z : ℤ) (ty : Scalar) → Spares first sizes p (constant_of r z ty)
  constant_spares r z (Int e) = tt
  constant_spares r z Index = tt

  if_spares : (b : Bool) (x y : Action) → Spares first sizes p x → Spares first sizes p y → Spares first sizes p (if b then x else y)
  if_spares true x y h k = h
  if_spares false x y h k = k

  dealloc_spares : (o : Option Home) (ty : MemrefType) → Spares first sizes p (dealloc_of o ty)
  dealloc_spares (Some (FastMemref n)) ty = tt
  dealloc_spares (Some (TagMemref n)) ty = tt
  dealloc_spares (Some (SlowMemref k n)) ty = tt
  dealloc_spares None ty = tt

  wait_spares : (tag : Option ℕ) (count : ℕ) → Spares first sizes p (wait_of tag count)
  wait_spares (Some tag) count = tt
  wait_spares None count = tt

  pub spares : (q : Plain) (e : Env) → SparedStatement q e → Spares first sizes p (action_of q e)
  unfolding action_of
  spares (Value r pick at) e h = tt
  spares (Load r n at ty) e h = access_spared (same_name p.memref n) n at ty e p.reads refl h.0 h.1.1
  spares (Store x n at ty) e h = access_spared (same_name p.memref n) n at ty e p.writes refl h.0 h.1.1
  spares (RawLoad r n at ty) e h = h.1.0 h.1.1
  spares (RawStore x n at ty) e h = h.1.0 h.1.1
  spares (Constant r z ty) e h = constant_spares r z ty
  spares (Binary r op a b ty) e h = tt
  spares (Cast r kind x from to) e h = tt
  spares (Alloc r ty) e h = if_spares (is_fast ty) (Allocates e.fasts ty.element ty.sizes) (AllocatesTags e.tags (product ty.sizes)) tt tt
  spares (Dealloc m ty) e h = dealloc_spares (e.home m) ty
  spares (Start a a_at b b_at t t_at n stride types) e h =
      start_by (Spares first sizes p) e a a_at b b_at t t_at (layout_of e n stride) types (λ k. tt) (λ z s. h.1.0 h.1.1.0 h.1.1.1 z s)
  spares (Wait t at n ty) e h = wait_spares (tag_of e t at ty) (gap (number (e.known n)))
  spares Return e h = tt
