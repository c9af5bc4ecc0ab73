-- States of the prompt meaning in which every number lies in the range of its type, and memrefs that have their room.
use Rattle.std.proofs.Common.{◌≡◌, ℕ, suc, ◌+◌, ◌-◌, ◌≤◌, ◌<◌, max, ℤ, pos, Bool, true, false, List, [], ◌∷◌, ◌++◌, length, refl, sym, ap, ◌∙◌, subst, arith}
use Rattle.std.specs.Prelude.{not, nat_eq, nat_le, Option, Some, None, is_some, slice_index_or, slice_set, if◌then◌else◌}
use Rattle.std.specs.List.{All}
use Rattle.std.proofs.lemmas.Bool.{leb-true}
use Rattle.int_ops.specs.Wrapped.{InRange}
use Rattle.affine_ast.specs.declared.name.Name.{Name}
use Rattle.affine_ast.specs.declared.types.Element.{Element}
use Rattle.affine_ast.specs.declared.types.MemrefType.{MemrefType}
use Rattle.affine_ast.specs.declared.types.Scalar.{Scalar}
use Rattle.affine_ast.specs.declared.types.Scalar.TheVariants as scalar
use Rattle.affine_ast.specs.Names.{same_name, put}
use Rattle.affine_ast.proofs.Names.{put-same, put-other, same_name-eq}
use Rattle.affine_ast.specs.Rules.{is_in, binding_is_memref_of, is_memref_of}
use Rattle.affine_ast.specs.Scope.{Binding, Variable, Symbol, IndexConstant, Data, MemrefArgument, Allocation, Scope}
use Rattle.affine_ast.specs.Sizes.{element_bits, scalar_bits, product}
use Rattle.bus_model.specs.declared.step.FaultKind.{FaultKind}
use Rattle.bus_model.specs.declared.step.FaultKind.TheVariants.{Bounds, Touched, Race, Tag, Capacity, Shape}
use Rattle.bus_model.specs.declared.transfer.Transfer.{Transfer}
use Rattle.bus_model.specs.Copies.{moved_in, moved_out}
use Rattle.bus_model.specs.Places.{slow_place}
use Rattle.direct_meaning.specs.Action.{Home, SlowMemref, FastMemref, TagMemref, Place, Slow, Fast, Outside}
use Rattle.direct_meaning.specs.Actions.{half_cells}
use Rattle.direct_meaning.specs.Direct.{Outcome, End, Fault, State, keep, write, keep_result}
use Rattle.direct_meaning.specs.Static.{within, cell_in, slow_at, fast_at, half_place, place_at}
use Rattle.prompt_semantics.specs.Device.{Device, bytes_of, put_half, fresh_half, allocated, is_away, is_started, load_races, store_races, start_races, copied_in, copied_out, recorded, started, record_of, without}
use Rattle.prompt_semantics.specs.Prompt.{carried, refused, prompt_load, prompt_store, prompt_alloc, prompt_start, wait_on}
use Rattle.valid_laws.proofs.Scoped.{type_same}
use Rattle.run_laws.proofs.Cells.{CellsFit, LiesAt, LiesIn, lies_along, within_below, cell_below, cells_set}
use Rattle.run_laws.proofs.Typed.{element_width, Typed, static_put, data_put, typed_back, IsStatic}
use Rattle.prompt_laws.specs.Rooms.{Room, room_of, room_at, half_count}
use Rattle.prompt_laws.specs.Reaches.{FlightFits, FlightsFit}
use Rattle.prompt_laws.proofs.Halves.{HalfFits, set_fits, fresh_fits, moved_in_fits, moved_out_fits, half_put, halves_put, flights_more, flights_less}
use Rattle.prompt_laws.proofs.Runs.{Ends}

-- ---- what memrefs stand for, by the text alone

abbrev pub RoomIn : List Room → Option Home → MemrefType → Type 0
RoomIn rooms None ty = ⊥
RoomIn rooms (Some (SlowMemref number first)) ty = ⊥
RoomIn rooms (Some (FastMemref k)) ty = (k < length rooms) × (room_at rooms k ≡ room_of ty.element ty.sizes)
RoomIn rooms (Some (TagMemref first)) ty = Unit {0}

-- an argument lies in the slow memory, an allocation in space 1 has its room
abbrev pub Lies : List ℕ → List Room → Option Binding → Option Home → Type 0
Lies widths rooms None home = Unit {0}
Lies widths rooms (Some (Variable r)) home = Unit {0}
Lies widths rooms (Some (Symbol r)) home = Unit {0}
Lies widths rooms (Some (IndexConstant c)) home = Unit {0}
Lies widths rooms (Some (Data ty)) home = Unit {0}
Lies widths rooms (Some (MemrefArgument ty)) home = LiesIn widths home ty
Lies widths rooms (Some (Allocation ty)) home = RoomIn rooms home ty

abbrev pub MemrefsLie : List ℕ → List Room → Scope → (Name → Option Home) → Type 0
MemrefsLie widths rooms s home = (n : Name) → Lies widths rooms (s n) (home n)

abbrev pub IsNoMemref : Binding → Type 0
IsNoMemref b = (widths : List ℕ) (rooms : List Room) (home : Option Home) → Lies widths rooms (Some b) home

module _ (widths : List ℕ) (rooms : List Room) where
  -- a name more that is no memref
  pub lies_put : (s : Scope) (home : Name → Option Home) (r : Name) (b : Binding) → IsNoMemref b → MemrefsLie widths rooms s home → MemrefsLie widths rooms (put s r (Some b)) home
  lies_put s home r b k h n = by (same_name r n) refl
    where
      by : (t : Bool) → same_name r n ≡ t → Lies widths rooms (put s r (Some b) n) (home n)
      by true t = subst (λ x. Lies widths rooms x (home n)) (sym (put-same s r (Some b) n t)) (k widths rooms (home n))
      by false t = subst (λ x. Lies widths rooms x (home n)) (sym (put-other s r (Some b) n t)) (h n)

  -- an allocation more
  pub lies_alloc : (s : Scope) (home : Name → Option Home) (r : Name) (ty : MemrefType) (new : Home) → RoomIn rooms (Some new) ty → MemrefsLie widths rooms s home → MemrefsLie widths rooms (put s r (Some (Allocation ty))) (put home r (Some new))
  lies_alloc s home r ty new k h n = by (same_name r n) refl
    where
      by : (t : Bool) → same_name r n ≡ t → Lies widths rooms (put s r (Some (Allocation ty)) n) (put home r (Some new) n)
      by true t = subst (λ x. x) (λ i. Lies widths rooms (sym (put-same s r (Some (Allocation ty)) n t) i) (sym (put-same home r (Some new) n t) i)) k
      by false t = subst (λ x. x) (λ i. Lies widths rooms (sym (put-other s r (Some (Allocation ty)) n t) i) (sym (put-other home r (Some new) n t) i)) (h n)

-- ---- the halves of the allocations in scope

abbrev pub HalvesFit : List Room → Option Binding → Option Home → (ℕ → ℕ → List ℤ) → Type 0
HalvesFit rooms (Some (Allocation ty)) (Some (FastMemref k)) halves = (h : ℕ) → HalfFits (room_at rooms k) (halves k h)
HalvesFit rooms b home halves = Unit {0}

-- the halves of what is no allocation
abbrev pub HasNoHalves : Binding → Type 0
HasNoHalves b = (rooms : List Room) (home : Option Home) (halves : ℕ → ℕ → List ℤ) → HalvesFit rooms (Some b) home halves

no_halves : (rooms : List Room) (home : Option Home) (halves : ℕ → ℕ → List ℤ) → HalvesFit rooms None home halves
no_halves rooms home halves = tt

-- what a half's change keeps
halves_kept : (rooms : List Room) (b : Option Binding) (home : Option Home) (halves after : ℕ → ℕ → List ℤ) → ((k : ℕ) → ((h : ℕ) → HalfFits (room_at rooms k) (halves k h)) → (h : ℕ) → HalfFits (room_at rooms k) (after k h)) → HalvesFit rooms b home halves → HalvesFit rooms b home after
halves_kept rooms None home halves after f h = tt
halves_kept rooms (Some (Variable r)) home halves after f h = tt
halves_kept rooms (Some (Symbol r)) home halves after f h = tt
halves_kept rooms (Some (IndexConstant c)) home halves after f h = tt
halves_kept rooms (Some (Data ty)) home halves after f h = tt
halves_kept rooms (Some (MemrefArgument ty)) home halves after f h = tt
halves_kept rooms (Some (Allocation ty)) None halves after f h = tt
halves_kept rooms (Some (Allocation ty)) (Some (SlowMemref number first)) halves after f h = tt
halves_kept rooms (Some (Allocation ty)) (Some (TagMemref first)) halves after f h = tt
halves_kept rooms (Some (Allocation ty)) (Some (FastMemref k)) halves after f h = f k h

-- ---- states

pub record Holds (widths : List ℕ) (rooms : List Room) (capacity : ℕ) (s : Scope) (home : Name → Option Home) (y : Device) : Type 0 where
  pub typed : Typed widths s y.state
  pub halves : (n : Name) → HalvesFit rooms (s n) (home n) y.halves
  pub live : y.live ≤ capacity
  pub flights : FlightsFit (length widths) y.outstanding

-- what holds at a fault
abbrev pub SlowFits : List ℕ → Device → Type 0
SlowFits widths y = CellsFit widths y.state.slow

module _ (widths : List ℕ) (rooms : List Room) (capacity : ℕ) where
  -- one name more, that is no data and no memref
  pub static_more : (s : Scope) (home : Name → Option Home) (r : Name) (b : Binding) (y : Device) → IsStatic b → HasNoHalves b → Holds widths rooms capacity s home y → Holds widths rooms capacity (put s r (Some b)) home y
  static_more s home r b y k none h = record { typed = static_put widths s r b y.state k h.typed; halves = λ n. by n (same_name r n) refl; live = h.live; flights = h.flights }
    where
      by : (n : Name) (t : Bool) → same_name r n ≡ t → HalvesFit rooms (put s r (Some b) n) (home n) y.halves
      by n true t = subst (λ x. HalvesFit rooms x (home n) y.halves) (sym (put-same s r (Some b) n t)) (none rooms (home n) y.halves)
      by n false t = subst (λ x. HalvesFit rooms x (home n) y.halves) (sym (put-other s r (Some b) n t)) (h.halves n)

  -- one name more that holds data
  pub data_more : (s : Scope) (home : Name → Option Home) (r : Name) (ty : Scalar) (z : ℤ) (y : Device) → InRange (scalar_bits ty) z → Holds widths rooms capacity s home y → Holds widths rooms capacity (put s r (Some (Data ty))) home (record y { state = keep r z y.state })
  data_more s home r ty z y k h = record { typed = data_put widths s r ty z y.state k h.typed; halves = λ n. by n (same_name r n) refl; live = h.live; flights = h.flights }
    where
      by : (n : Name) (t : Bool) → same_name r n ≡ t → HalvesFit rooms (put s r (Some (Data ty)) n) (home n) y.halves
      by n true t = subst (λ x. HalvesFit rooms x (home n) y.halves) (sym (put-same s r (Some (Data ty)) n t)) tt
      by n false t = subst (λ x. HalvesFit rooms x (home n) y.halves) (sym (put-other s r (Some (Data ty)) n t)) (h.halves n)

  -- behind a region, without the name
  pub holds_back : (s : Scope) (home after : Name → Option Home) (r : Name) (b : Binding) (y : Device) → not (is_in s r) ≡ true → ((n : Name) → same_name r n ≡ false → after n ≡ home n) → Holds widths rooms capacity (put s r (Some b)) after y → Holds widths rooms capacity s home y
  unfolding is_in
  holds_back s home after r b y new same h = record { typed = typed_back widths s r b y.state new h.typed; halves = λ n. by n (same_name r n) refl; live = h.live; flights = h.flights }
    where
      gone : (o : Option Binding) (home : Option Home) → not (is_some o) ≡ true → HalvesFit rooms o home y.halves
      gone None home e = tt
      gone (Some b) home e = absurd (let z : ⊥ = cc in z)

      by : (n : Name) (t : Bool) → same_name r n ≡ t → HalvesFit rooms (s n) (home n) y.halves
      by n true t = gone (s n) (home n) (ap (λ m. not (is_some (s m))) (sym (same_name-eq r n t)) ∙ new)
      by n false t = subst (λ x. x) (λ i. HalvesFit rooms (put-other s r (Some b) n t i) (same n t i) y.halves) (h.halves n)

  -- a half is changed
  pub half_changed : (s : Scope) (home : Name → Option Home) (y : Device) (number half : ℕ) (cells : List ℤ) → HalfFits (room_at rooms number) cells → Holds widths rooms capacity s home y → Holds widths rooms capacity s home (record y { halves = put_half y.halves number half cells })
  half_changed s home y number half cells k h = record {
    typed = h.typed;
    halves = λ n. halves_kept rooms (s n) (home n) y.halves (put_half y.halves number half cells) (λ j f i. half_put (room_at rooms j) y.halves number half j i cells (λ e. subst (λ j. HalfFits (room_at rooms j) cells) e k) (f i)) (h.halves n);
    live = h.live;
    flights = h.flights;
  }

  -- the slow memory is changed
  pub slow_changed : (s : Scope) (home : Name → Option Home) (y : Device) (slow : List ℤ) → CellsFit widths slow → Holds widths rooms capacity s home y → Holds widths rooms capacity s home (record y { state = record y.state { slow = slow } })
  slow_changed s home y slow k h = record { typed = record { names = h.typed.names; cells = k }; halves = h.halves; live = h.live; flights = h.flights }

  -- ---- an access

  -- where a memref is, and what its halves have
  abbrev pub MemrefAt : (ℕ → ℕ → List ℤ) → Option Home → MemrefType → Type 0
  MemrefAt halves None ty = ⊥
  MemrefAt halves (Some (SlowMemref number first)) ty = LiesAt widths first ty
  MemrefAt halves (Some (FastMemref k)) ty = (k < length rooms) × (room_at rooms k ≡ room_of ty.element ty.sizes) × ((h : ℕ) → HalfFits (room_at rooms k) (halves k h))
  MemrefAt halves (Some (TagMemref first)) ty = Unit {0}

  argument_at : (halves : ℕ → ℕ → List ℤ) (home : Option Home) (ty : MemrefType) → LiesIn widths home ty → MemrefAt halves home ty
  argument_at halves None ty h = absurd h
  argument_at halves (Some (SlowMemref number first)) ty h = h
  argument_at halves (Some (FastMemref k)) ty h = absurd h
  argument_at halves (Some (TagMemref first)) ty h = absurd h

  allocation_at : (halves : ℕ → ℕ → List ℤ) (home : Option Home) (of ty : MemrefType) → room_of of.element of.sizes ≡ room_of ty.element ty.sizes → RoomIn rooms home of → HalvesFit rooms (Some (Allocation of)) home halves → MemrefAt halves home ty
  allocation_at halves None of ty e h k = absurd h
  allocation_at halves (Some (SlowMemref number first)) of ty e h k = absurd h
  allocation_at halves (Some (FastMemref j)) of ty e h k = (h.0, h.1 ∙ e, k)
  allocation_at halves (Some (TagMemref first)) of ty e h k = tt

  binding_at : (halves : ℕ → ℕ → List ℤ) (b : Option Binding) (home : Option Home) (ty : MemrefType) → Lies widths rooms b home → HalvesFit rooms b home halves → binding_is_memref_of b ty ≡ true → MemrefAt halves home ty
  binding_at halves None home ty h k t = absurd (let z : ⊥ = cc in z)
  binding_at halves (Some (Variable r)) home ty h k t = absurd (let z : ⊥ = cc in z)
  binding_at halves (Some (Symbol r)) home ty h k t = absurd (let z : ⊥ = cc in z)
  binding_at halves (Some (IndexConstant c)) home ty h k t = absurd (let z : ⊥ = cc in z)
  binding_at halves (Some (Data of)) home ty h k t = absurd (let z : ⊥ = cc in z)
  binding_at halves (Some (MemrefArgument of)) home ty h k t = argument_at halves home ty (lies_along widths home of ty (type_same of ty t) h)
  binding_at halves (Some (Allocation of)) home ty h k t =
      let same = type_same of ty t in
      allocation_at halves home of ty (λ i. record { halves = half_count (same.sizes i); cells = half_cells (same.sizes i); bits = same.bits i }) h k

  pub memref_at : (s : Scope) (home : Name → Option Home) (y : Device) (m : Name) (ty : MemrefType) → MemrefsLie widths rooms s home → Holds widths rooms capacity s home y → is_memref_of s m ty ≡ true → MemrefAt y.halves (home m) ty
  unfolding is_memref_of
  memref_at s home y m ty lies h t = binding_at y.halves (s m) (home m) ty (lies m) (h.halves m) t

  -- a half of a fast memref of cells so wide
  pub record HalfAt (halves : ℕ → ℕ → List ℤ) (bits number h : ℕ) : Type 0 where
    pub there : number < length rooms
    pub half_there : h < (room_at rooms number).halves
    pub wide : (room_at rooms number).bits ≡ bits
    pub half : HalfFits (room_at rooms number) (halves number h)

  -- a place whose cell is so wide
  abbrev pub PlaceFits : (ℕ → ℕ → List ℤ) → ℕ → Place → Type 0
  PlaceFits halves bits (Slow place) = (place < length widths) × (slice_index_or widths place 0 ≡ bits)
  PlaceFits halves bits (Fast number half cell) = HalfAt halves bits number half × (cell < (room_at rooms number).cells)
  PlaceFits halves bits Outside = Unit {0}

  slow_fits : (halves : ℕ → ℕ → List ℤ) (first : ℕ) (ty : MemrefType) (o : Option ℕ) → LiesAt widths first ty → ((c : ℕ) → o ≡ Some c → c < product ty.sizes) → PlaceFits halves (element_bits ty.element) (slow_at first o)
  slow_fits halves first ty None h f = tt
  slow_fits halves first ty (Some c) h f = let less = f c refl in (omega (arith, h.places, less), h.cells c less)

  fast_fits : (halves : ℕ → ℕ → List ℤ) (bits k : ℕ) (n : ℕ) (sizes : List ℕ) (half cell : Option ℕ) → k < length rooms → (room_at rooms k).halves ≡ n → (room_at rooms k).cells ≡ product sizes → (room_at rooms k).bits ≡ bits → ((h : ℕ) → HalfFits (room_at rooms k) (halves k h))
      → ((h : ℕ) → half ≡ Some h → h < n) → ((c : ℕ) → cell ≡ Some c → c < product sizes) → PlaceFits halves bits (fast_at k half cell)
  fast_fits halves bits k n sizes None cell l a b w f p q = tt
  fast_fits halves bits k n sizes (Some h) None l a b w f p q = tt
  fast_fits halves bits k n sizes (Some h) (Some c) l a b w f p q =
      (record { there = l; half_there = subst (λ m. h < m) (sym a) (p h refl); wide = w; half = f h }, subst (λ m. c < m) (sym b) (q c refl))

  half_fits : (halves : ℕ → ℕ → List ℤ) (k : ℕ) (element : Element) (sizes : List ℕ) (zs : List ℤ) → k < length rooms → room_at rooms k ≡ room_of element sizes → ((h : ℕ) → HalfFits (room_at rooms k) (halves k h)) → PlaceFits halves (element_bits element) (half_place k sizes zs)
  half_fits halves k element [] zs l e f = tt
  half_fits halves k element (n ∷ sizes) [] l e f = tt
  half_fits halves k element (n ∷ sizes) (z ∷ zs) l e f =
      fast_fits halves (element_bits element) k n sizes (within z n) (cell_in sizes zs) l (ap (λ (r : Room). r.halves) e) (ap (λ (r : Room). r.cells) e) (ap (λ (r : Room). r.bits) e) f (λ h q. within_below z n h q) (λ c q. cell_below sizes zs c q)

  pub place_fits : (halves : ℕ → ℕ → List ℤ) (home : Option Home) (ty : MemrefType) (zs : List ℤ) → MemrefAt halves home ty → PlaceFits halves (element_bits ty.element) (place_at home ty.sizes zs)
  place_fits halves None ty zs h = absurd h
  place_fits halves (Some (SlowMemref number first)) ty zs h = slow_fits halves first ty (cell_in ty.sizes zs) h (λ c e. cell_below ty.sizes zs c e)
  place_fits halves (Some (FastMemref k)) ty zs h = half_fits halves k ty.element ty.sizes zs h.0 h.1 h.2
  place_fits halves (Some (TagMemref first)) ty zs h = tt

  -- ---- outcomes

  -- a test that may fault
  pub tested : (U : Device → Type 0) (b : Bool) (k : FaultKind) (y : Device) (go : Outcome Device) → SlowFits widths y → (b ≡ false → Ends (SlowFits widths) U go) → Ends (SlowFits widths) U (refused b k y go)
  tested U true k y go h f = h
  tested U false k y go h f = f refl

  module _ (s : Scope) (home : Name → Option Home) (y : Device) (h : Holds widths rooms capacity s home y) where
    pub load_ends : (r : Name) (ty : Scalar) (place : Place) → PlaceFits y.halves (scalar_bits ty) place → Ends (SlowFits widths) (Holds widths rooms capacity (put s r (Some (Data ty))) home) (prompt_load r place y)
    load_ends r ty (Slow place) k =
        tested _ (load_races y.outstanding place) Race y _ h.typed.cells
        (λ e. data_more s home r ty _ y (subst (λ n. InRange n (slice_index_or y.state.slow place (pos 0))) k.1 (h.typed.cells.fit place k.0)) h)
    load_ends r ty (Fast number half cell) k =
        tested _ (is_away y.outstanding number half) Touched y _ h.typed.cells
        (λ e. data_more s home r ty _ y (subst (λ n. InRange n (slice_index_or (y.halves number half) cell (pos 0))) k.0.wide (k.0.half.fit cell k.1)) h)
    load_ends r ty Outside k = h.typed.cells

    pub store_ends : (bits : ℕ) (z : ℤ) (place : Place) → PlaceFits y.halves bits place → InRange bits z → Ends (SlowFits widths) (Holds widths rooms capacity s home) (prompt_store z place y)
    store_ends bits z (Slow place) k r =
        tested _ (store_races y.outstanding place) Race y _ h.typed.cells
        (λ e. slow_changed s home y (slice_set y.state.slow place z) (cells_set widths y.state.slow place bits z h.typed.cells k.0 k.1 r) h)
    store_ends bits z (Fast number half cell) k r =
        tested _ (is_away y.outstanding number half) Touched y _ h.typed.cells
        (λ e. half_changed s home y number half (slice_set (y.halves number half) cell z) (set_fits (room_at rooms number) (y.halves number half) cell z k.0.half (subst (λ n. InRange n z) (sym k.0.wide) r)) h)
    store_ends bits z Outside k r = h.typed.cells

    -- an operation's result
    pub result_ends : (r : Name) (ty : Scalar) (o : Option ℤ) → ((z : ℤ) → o ≡ Some z → InRange (scalar_bits ty) z) → Ends (SlowFits widths) (Holds widths rooms capacity (put s r (Some (Data ty))) home) (carried y (keep_result r o y.state))
    result_ends r ty (Some z) f = data_more s home r ty z y (f z refl) h
    result_ends r ty None f = h.typed.cells

    -- a fast memref more
    pub alloc_ends : (filler : ℤ) (r : Name) (k : ℕ) (ty : MemrefType) → room_at rooms k ≡ room_of ty.element ty.sizes → Ends (SlowFits widths) (Holds widths rooms capacity (put s r (Some (Allocation ty))) (put home r (Some (FastMemref k)))) (prompt_alloc filler capacity k ty.element ty.sizes y)
    alloc_ends filler r k ty e = by (nat_le (y.live + bytes_of ty.element ty.sizes) capacity) refl
      where
        fresh : HalfFits (room_at rooms k) (fresh_half filler ty.element ty.sizes)
        fresh = subst (λ room. HalfFits room (fresh_half filler ty.element ty.sizes)) (sym e) (fresh_fits (room_of ty.element ty.sizes) filler (let w = element_width ty.element in omega (arith, w.0)))

        each : (n : Name) (t : Bool) → same_name r n ≡ t → HalvesFit rooms (put s r (Some (Allocation ty)) n) (put home r (Some (FastMemref k)) n) (allocated filler k ty.element ty.sizes y).halves
        each n true t = subst (λ x. x) (λ i. HalvesFit rooms (sym (put-same s r (Some (Allocation ty)) n t) i) (sym (put-same home r (Some (FastMemref k)) n t) i) (allocated filler k ty.element ty.sizes y).halves)
            (λ i. halves_put (room_at rooms k) y.halves k k i _ (λ q. fresh) (λ q. absurd (q refl)))
        each n false t = subst (λ x. x) (λ i. HalvesFit rooms (sym (put-other s r (Some (Allocation ty)) n t) i) (sym (put-other home r (Some (FastMemref k)) n t) i) (allocated filler k ty.element ty.sizes y).halves)
            (halves_kept rooms (s n) (home n) y.halves _ (λ j f i. halves_put (room_at rooms j) y.halves k j i _ (λ q. subst (λ j. HalfFits (room_at rooms j) (fresh_half filler ty.element ty.sizes)) q fresh) (λ q. f i)) (h.halves n))

        by : (t : Bool) → nat_le (y.live + bytes_of ty.element ty.sizes) capacity ≡ t → Ends (SlowFits widths) (Holds widths rooms capacity (put s r (Some (Allocation ty))) (put home r (Some (FastMemref k)))) (if t then End (allocated filler k ty.element ty.sizes y) else Fault Capacity y)
        by true t = record { typed = static_put widths s r (Allocation ty) y.state (λ z. tt) h.typed; halves = λ n. each n (same_name r n) refl; live = leb-true (y.live + bytes_of ty.element ty.sizes) capacity t; flights = h.flights }
        by false t = h.typed.cells

    -- tags more
    pub tags_more : (r : Name) (first : ℕ) (ty : MemrefType) → Holds widths rooms capacity (put s r (Some (Allocation ty))) (put home r (Some (TagMemref first))) y
    tags_more r first ty = record { typed = static_put widths s r (Allocation ty) y.state (λ z. tt) h.typed; halves = λ n. each n (same_name r n) refl; live = h.live; flights = h.flights }
      where
        each : (n : Name) (t : Bool) → same_name r n ≡ t → HalvesFit rooms (put s r (Some (Allocation ty)) n) (put home r (Some (TagMemref first)) n) y.halves
        each n true t = subst (λ x. x) (λ i. HalvesFit rooms (sym (put-same s r (Some (Allocation ty)) n t) i) (sym (put-same home r (Some (TagMemref first)) n t) i) y.halves) tt
        each n false t = subst (λ x. x) (λ i. HalvesFit rooms (sym (put-other s r (Some (Allocation ty)) n t) i) (sym (put-other home r (Some (TagMemref first)) n t) i) y.halves) (h.halves n)

    -- fewer live bytes
    pub released_holds : (bytes : ℕ) → Holds widths rooms capacity s home (record y { live = y.live - bytes })
    released_holds bytes = record { typed = h.typed; halves = h.halves; live = let l = h.live in omega (arith, l); flights = h.flights }

    pub wait_ends : (tag count : ℕ) → Ends (SlowFits widths) (Holds widths rooms capacity s home) (wait_on (record_of tag y.outstanding) tag count y)
    wait_ends tag count = by (record_of tag y.outstanding)
      where
        passes : (b : Bool) → Ends (SlowFits widths) (Holds widths rooms capacity s home) (if b then End (record y { outstanding = without tag y.outstanding }) else Fault Shape y)
        passes true = record { typed = h.typed; halves = h.halves; live = h.live; flights = flights_less (length widths) y.outstanding tag h.flights }
        passes false = h.typed.cells

        by : (o : Option Transfer) → Ends (SlowFits widths) (Holds widths rooms capacity s home) (wait_on o tag count y)
        by None = h.typed.cells
        by (Some t) = passes (nat_eq t.count count)

    -- a start that fits: its half, and its slow places, of one width
    pub record StartFits (bits : ℕ) (t : Transfer) : Type 0 where
      pub half : HalfAt y.halves bits t.fast t.half
      pub inside : t.offset + t.count ≤ (room_at rooms t.fast).cells
      pub tag_fits : t.tag < 65536
      pub some : 1 ≤ t.count
      pub some_chunk : 1 ≤ t.chunk
      pub apart : t.chunk ≤ t.stride
      pub places : (e : ℕ) → e < t.count → (slow_place t e < length widths) × (slice_index_or widths (slow_place t e) 0 ≡ bits)
      pub places_fit : (e : ℕ) → e < t.count → slow_place t e < 1048576

    module _ (bits : ℕ) (t : Transfer) (k : StartFits bits t) where
      same_width : (e : ℕ) → e < t.count → (slow_place t e < length widths) × (slice_index_or widths (slow_place t e) 0 ≡ (room_at rooms t.fast).bits)
      same_width e below = let p = k.places e below in (p.0, p.1 ∙ sym k.half.wide)

      copied : (b : Bool) → Holds widths rooms capacity s home (if b then copied_in t y else copied_out t y)
      copied true = half_changed s home y t.fast t.half _ (moved_in_fits widths y.state.slow (room_at rooms t.fast) (y.halves t.fast t.half) t h.typed.cells same_width k.half.half) h
      copied false = slow_changed s home y _ (moved_out_fits widths y.state.slow (room_at rooms t.fast) (y.halves t.fast t.half) t k.half.half k.inside same_width h.typed.cells) h

      same_outstanding : (b : Bool) → (if b then copied_in t y else copied_out t y).outstanding ≡ y.outstanding
      same_outstanding true = refl
      same_outstanding false = refl

      recorded_holds : (z : Device) → Holds widths rooms capacity s home z → is_started z.outstanding t.tag ≡ false → Holds widths rooms capacity s home (recorded t z)
      recorded_holds z hz idle = record {
        typed = hz.typed;
        halves = hz.halves;
        live = hz.live;
        flights = flights_more (length widths) z.outstanding t hz.flights idle (record { tag_fits = k.tag_fits; some_chunk = k.some_chunk; apart = k.apart; places = λ e below. (k.places e below).0; places_fit = k.places_fit });
      }

      started_holds : is_started y.outstanding t.tag ≡ false → Holds widths rooms capacity s home (started t y)
      unfolding started
      started_holds idle = recorded_holds _ (copied t.incoming) (ap (λ ts. is_started ts t.tag) (same_outstanding t.incoming) ∙ idle)

      pub start_ends : Ends (SlowFits widths) (Holds widths rooms capacity s home) (prompt_start t y)
      start_ends =
          tested _ (is_started y.outstanding t.tag) Tag y _ h.typed.cells
          (λ idle. tested _ (is_away y.outstanding t.fast t.half) Touched y _ h.typed.cells
          (λ here. tested _ (start_races y.outstanding t) Race y _ h.typed.cells (λ e. started_holds idle)))
