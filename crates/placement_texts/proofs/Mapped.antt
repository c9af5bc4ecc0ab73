-- The actions of a text whose plain statements are changed one by one are its actions, changed.
use Rattle.std.proofs.Common.{◌≡◌, ℕ, ◌+◌, ◌≤◌, ℤ, List, [], ◌∷◌, refl, sym, ap, ◌∙◌, arith, Bool, true, false}
use Rattle.std.specs.Prelude.{Option, Some, None, if◌then◌else◌}
use Rattle.bus_model.specs.declared.step.FaultKind.TheVariants.{Bounds, Shape}
use Rattle.bus_model.specs.declared.transfer.Transfer.{Transfer}
use Rattle.bus_model.specs.Places.{slow_place}
use Rattle.affine_ast.specs.declared.name.Name.{Name}
use Rattle.affine_ast.specs.declared.types.Access.{Access}
use Rattle.affine_ast.specs.declared.types.MemrefType.{MemrefType}
use Rattle.affine_ast.specs.declared.types.Scalar.{Scalar}
use Rattle.affine_ast.specs.declared.types.Scalar.TheVariants.{Int, Index}
use Rattle.affine_ast.specs.Nest.{Plain, Value, Load, Store, RawLoad, RawStore, Constant, Binary, Cast, Alloc, Dealloc, Start, Wait, Return}
use Rattle.direct_meaning.specs.Turns.{gap}
use Rattle.direct_meaning.specs.Transfers.{ends_by}
use Rattle.direct_meaning.specs.Action.{Home, SlowMemref, FastMemref, TagMemref, Place, Slow, Fast, Outside, Action, Loads, Stores, RawLoads, RawStores, Operates, Converts, Allocates, AllocatesTags, Starts, Faults}
use Rattle.direct_meaning.specs.Static.{Env, number, results_of, within, cell_in, slow_at, fast_at, half_place, place_at, place_of, tag_at, tag_of, product, scalar_bits}
use Rattle.direct_meaning.specs.Actions.{constant_of, is_fast, dealloc_of, half_cells, Layout, layout_of, has_shape, started, transfer_of, start_between, start_of, wait_of, action_of, fasts_of_plain, tags_of_plain}
use Rattle.placement_texts.specs.Labels.{Numbers, fast_up, tag_up, home_up, transfer_up, place_with, action_with}
use Rattle.placement_texts.specs.Own.{OwnNames, OwnPair, OwnPlain}
use Rattle.placement_texts.specs.Mapped.{TagsTogether, Together}
use Rattle.placement_texts.proofs.Follows.{Shifts, Follows, results_same, operand_same, operands_same}

module _ (new : Numbers) where
  slow_up : (first : ℕ) (o : Option ℕ) → slow_at first o ≡ place_with Slow new (slow_at first o)
  slow_up first (Some cell) = refl
  slow_up first None = refl

  fast_up_at : (number : ℕ) (half cell : Option ℕ) → fast_at (fast_up new number) half cell ≡ place_with Slow new (fast_at number half cell)
  fast_up_at number (Some half) (Some cell) = refl
  fast_up_at number (Some half) None = refl
  fast_up_at number None cell = refl

  half_up : (number : ℕ) (sizes : List ℕ) (zs : List ℤ) → half_place (fast_up new number) sizes zs ≡ place_with Slow new (half_place number sizes zs)
  half_up number (halves ∷ sizes) (z ∷ zs) = fast_up_at number (within z halves) (cell_in sizes zs)
  half_up number [] zs = refl
  half_up number (halves ∷ sizes) [] = refl

  place_at_up : (home : Option Home) (sizes : List ℕ) (zs : List ℤ) → place_at (home_up new home) sizes zs ≡ place_with Slow new (place_at home sizes zs)
  place_at_up (Some (SlowMemref number first)) sizes zs = slow_up first (cell_in sizes zs)
  place_at_up (Some (FastMemref number)) sizes zs = half_up number sizes zs
  place_at_up (Some (TagMemref first)) sizes zs = refl
  place_at_up None sizes zs = refl

  abbrev tag_some_up : Option ℕ → Option ℕ
  tag_some_up (Some tag) = Some (tag_up new tag)
  tag_some_up None = None

  tag_at_up : (home : Option Home) (o : Option ℕ) → ((first cell : ℕ) → home ≡ Some (TagMemref first) → o ≡ Some cell → tag_up new (first + cell) ≡ tag_up new first + cell)
      → tag_at (home_up new home) o ≡ tag_some_up (tag_at home o)
  tag_at_up (Some (TagMemref first)) (Some cell) h = ap Some (sym (h first cell refl refl))
  tag_at_up (Some (TagMemref first)) None h = refl
  tag_at_up (Some (SlowMemref number first)) o h = refl
  tag_at_up (Some (FastMemref number)) o h = refl
  tag_at_up None o h = refl

  -- where slow places go somewhere, no transfer's does
  module _ (f : ℕ → Place) where
    abbrev go : Action → Action
    go = action_with f new

    constant_up : (r : Name) (z : ℤ) (ty : Scalar) → constant_of r z ty ≡ go (constant_of r z ty)
    constant_up r z (Int element) = refl
    constant_up r z Index = refl

    alloc_up : (b : Bool) (x y : Action) (x' y' : Action) → (b ≡ true → x' ≡ go x) → (b ≡ false → y' ≡ go y) → (if b then x' else y') ≡ go (if b then x else y)
    alloc_up true x y x' y' p q = p refl
    alloc_up false x y x' y' p q = q refl

    dealloc_up : (home : Option Home) (ty : MemrefType) → dealloc_of (home_up new home) ty ≡ go (dealloc_of home ty)
    dealloc_up (Some (FastMemref number)) ty = refl
    dealloc_up (Some (TagMemref first)) ty = refl
    dealloc_up (Some (SlowMemref number first)) ty = refl
    dealloc_up None ty = refl

    started_by : (b c : Bool) (t : Transfer) → (if b then (if c then Starts (transfer_up new t) else Faults Shape) else Faults Bounds) ≡ go (if b then (if c then Starts t else Faults Shape) else Faults Bounds)
    started_by true true t = refl
    started_by true false t = refl
    started_by false c t = refl

    started_up : (t : Transfer) (end cells : ℕ) → started (transfer_up new t) end cells ≡ go (started t end cells)
    unfolding slow_place
    started_up t end cells = started_by (ends_by t end) (has_shape t cells) t

    transfer_of_up : (incoming : Bool) (memref first : ℕ) (slow fast : MemrefType) (layout : Layout) (a b : Place) (tag : Option ℕ)
        → transfer_of incoming memref first slow fast layout (place_with Slow new a) (place_with Slow new b) (tag_some_up tag) ≡ go (transfer_of incoming memref first slow fast layout a b tag)
    transfer_of_up incoming memref first slow fast layout (Slow base) (Fast number half cell) (Some tag) = started_up _ (first + product slow.sizes) (half_cells fast.sizes)
    transfer_of_up incoming memref first slow fast layout (Slow base) (Fast number half cell) None = refl
    transfer_of_up incoming memref first slow fast layout (Slow base) (Slow p) tag = refl
    transfer_of_up incoming memref first slow fast layout (Slow base) Outside tag = refl
    transfer_of_up incoming memref first slow fast layout (Fast n h c) b tag = refl
    transfer_of_up incoming memref first slow fast layout Outside b tag = refl

    between_up : (from to : Option Home) (a b : Place) (from_ty to_ty : MemrefType) (layout : Layout) (tag : Option ℕ)
        → start_between (home_up new from) (home_up new to) (place_with Slow new a) (place_with Slow new b) from_ty to_ty layout (tag_some_up tag) ≡ go (start_between from to a b from_ty to_ty layout tag)
    between_up (Some (SlowMemref memref first)) to a b from_ty to_ty layout tag = transfer_of_up true memref first from_ty to_ty layout a b tag
    between_up (Some (FastMemref n)) (Some (SlowMemref memref first)) a b from_ty to_ty layout tag = transfer_of_up false memref first to_ty from_ty layout b a tag
    between_up (Some (TagMemref n)) (Some (SlowMemref memref first)) a b from_ty to_ty layout tag = transfer_of_up false memref first to_ty from_ty layout b a tag
    between_up None (Some (SlowMemref memref first)) a b from_ty to_ty layout tag = transfer_of_up false memref first to_ty from_ty layout b a tag
    between_up (Some (FastMemref n)) (Some (FastMemref m)) a b from_ty to_ty layout tag = refl
    between_up (Some (FastMemref n)) (Some (TagMemref m)) a b from_ty to_ty layout tag = refl
    between_up (Some (FastMemref n)) None a b from_ty to_ty layout tag = refl
    between_up (Some (TagMemref n)) (Some (FastMemref m)) a b from_ty to_ty layout tag = refl
    between_up (Some (TagMemref n)) (Some (TagMemref m)) a b from_ty to_ty layout tag = refl
    between_up (Some (TagMemref n)) None a b from_ty to_ty layout tag = refl
    between_up None (Some (FastMemref m)) a b from_ty to_ty layout tag = refl
    between_up None (Some (TagMemref m)) a b from_ty to_ty layout tag = refl
    between_up None None a b from_ty to_ty layout tag = refl

    wait_up : (tag : Option ℕ) (count : ℕ) → wait_of (tag_some_up tag) count ≡ go (wait_of tag count)
    wait_up (Some tag) count = refl
    wait_up None count = refl

    module _ (own : Name → Bool) (a k : ℕ) (made : Env) where
      abbrev F : Env → Env → Type 0
      F = Follows own new a k made

      -- a place that isn't moved
      pub place_same : (e g : Env) (m : Name) (at : Access) (ty : MemrefType) → own m ≡ true → OwnNames own at.operands → F e g → place_of g m at ty ≡ place_with Slow new (place_of e m at ty)
      unfolding place_of
      place_same e g m at ty m_own at_own s =
          (λ i. place_at (s.home m m_own i) ty.sizes (results_same own new a k made e g at s at_own i))
          ∙ place_at_up (e.home m) ty.sizes (results_of e at)

      tag_same : (e g : Env) (t : Name) (at : Access) (ty : MemrefType) → own t ≡ true → OwnNames own at.operands → TagsTogether new e t at ty → F e g → tag_of g t at ty ≡ tag_some_up (tag_of e t at ty)
      unfolding tag_of
      tag_same e g t at ty t_own at_own h s =
          (λ i. tag_at (s.home t t_own i) (cell_in ty.sizes (results_same own new a k made e g at s at_own i)))
          ∙ tag_at_up (e.home t) (cell_in ty.sizes (results_of e at)) (λ first cell p q. h first cell p q)

      layout_same : (e g : Env) (n : Name) (stride : Option (Name × Name)) → own n ≡ true → OwnPair own stride → F e g → layout_of g n stride ≡ layout_of e n stride
      layout_same e g n None n_own h s = λ i. record { count = gap (number (s.known n n_own i)); stride = gap (number (s.known n n_own i)); chunk = gap (number (s.known n n_own i)) }
      layout_same e g n (Some two) n_own h s = λ i. record { count = gap (number (s.known n n_own i)); stride = gap (number (s.known two.0 h.0 i)); chunk = gap (number (s.known two.1 h.1 i)) }

      start_same : (e g : Env) (x : Name) (x_at : Access) (y : Name) (y_at : Access) (t : Name) (t_at : Access) (n : Name) (stride : Option (Name × Name)) (types : List MemrefType)
          → OwnPlain own (Start x x_at y y_at t t_at n stride types) → Together new (Start x x_at y y_at t t_at n stride types) e → F e g
          → start_of g x x_at y y_at t t_at (layout_of g n stride) types ≡ go (start_of e x x_at y y_at t t_at (layout_of e n stride) types)
      start_same e g x x_at y y_at t t_at n stride (a_ty ∷ b_ty ∷ t_ty ∷ []) h j s =
          (λ i. start_between (s.home x h.0.0 i) (s.home y h.1.0 i) (place_same e g x x_at a_ty h.0.0 h.0.1 s i) (place_same e g y y_at b_ty h.1.0 h.1.1 s i) a_ty b_ty (layout_same e g n stride h.3 h.4 s i) (tag_same e g t t_at t_ty h.2.0 h.2.1 j s i))
          ∙ between_up (e.home x) (e.home y) (place_of e x x_at a_ty) (place_of e y y_at b_ty) a_ty b_ty (layout_of e n stride) (tag_of e t t_at t_ty)
      start_same e g x x_at y y_at t t_at n stride [] h j s = refl
      start_same e g x x_at y y_at t t_at n stride (a_ty ∷ []) h j s = refl
      start_same e g x x_at y y_at t t_at n stride (a_ty ∷ b_ty ∷ []) h j s = refl
      start_same e g x x_at y y_at t t_at n stride (a_ty ∷ b_ty ∷ t_ty ∷ u_ty ∷ types) h j s = refl

      -- where the place of a load or a store goes
      abbrev pub PlaceGoes : Plain → Env → Env → Type 0
      PlaceGoes (Load r m at ty) e g = place_of g m at ty ≡ place_with f new (place_of e m at ty)
      PlaceGoes (Store x m at ty) e g = place_of g m at ty ≡ place_with f new (place_of e m at ty)
      PlaceGoes p e g = Unit {0}

      pub action_goes : (p : Plain) (e g : Env) → OwnPlain own p → Together new p e → PlaceGoes p e g → Shifts own new a k e.fasts (fasts_of_plain p) e.tags (tags_of_plain p) → F e g
          → action_of p g ≡ action_with f new (action_of p e)
      unfolding action_of
      action_goes (Value r pick at) e g h j place m s = refl
      action_goes (Load r n at ty) e g h j place m s = ap (Loads r) place
      action_goes (Store x n at ty) e g h j place m s = λ i. Stores (operand_same own new a k made e g x s h.0 i) (place i)
      action_goes (RawLoad r n at ty) e g h j place m s = λ i. RawLoads r (s.home n h.1 i) ty.sizes (operands_same own new a k made e g at s h.2 i)
      action_goes (RawStore x n at ty) e g h j place m s = λ i. RawStores (operand_same own new a k made e g x s h.0 i) (s.home n h.1 i) ty.sizes (operands_same own new a k made e g at s h.2 i)
      action_goes (Constant r z ty) e g h j place m s = constant_up r z ty
      action_goes (Binary r op x y ty) e g h j place m s = λ i. Operates r op (scalar_bits ty) (operand_same own new a k made e g x s h.1 i) (operand_same own new a k made e g y s h.2 i)
      action_goes (Cast r kind x from to) e g h j place m s = λ i. Converts r kind (scalar_bits from) (scalar_bits to) (operand_same own new a k made e g x s h.1 i)
      action_goes (Alloc r ty) e g h j place m s = alloc_goes (is_fast ty) (product ty.sizes) h.1 m
        where
          alloc_goes : (b : Bool) (size : ℕ) → 1 ≤ size → Shifts own new a k e.fasts (if b then 1 else 0) e.tags (if b then 0 else size)
              → (if b then Allocates g.fasts ty.element ty.sizes else AllocatesTags g.tags size) ≡ go (if b then Allocates e.fasts ty.element ty.sizes else AllocatesTags e.tags size)
          alloc_goes true size few m = ap (λ n. Allocates n ty.element ty.sizes) (s.fasts ∙ sym (m.fast e.fasts (omega arith) (omega arith)))
          alloc_goes false size few m = ap (λ n. AllocatesTags n size) (s.tags ∙ sym (m.tag e.tags (omega arith) (omega (arith, few))))
      action_goes (Dealloc n ty) e g h j place m s = ap (λ home. dealloc_of home ty) (s.home n h) ∙ dealloc_up (e.home n) ty
      action_goes (Start x x_at y y_at t t_at n stride types) e g h j place m s = start_same e g x x_at y y_at t t_at n stride types h j s
      action_goes (Wait t at n ty) e g h j place m s =
          (λ i. wait_of (tag_same e g t at ty h.0.0 h.0.1 j s i) (gap (number (s.known n h.1 i))))
          ∙ wait_up (tag_of e t at ty) (gap (number (e.known n)))
      action_goes Return e g h j place m s = refl
