-- What each action of a valid text needs of a state of the prompt meaning, and what it leaves, along the list of its actions.
use Rattle.std.proofs.Common.{◌≡◌, ℕ, suc, ◌+◌, ◌*◌, ◌≤◌, ◌<◌, ◌^◌, ℤ, ◌≤ℤ◌, ◌<ℤ◌, Bool, true, false, List, [], ◌∷◌, ◌++◌, length, map, refl, sym, ap, ◌∙◌, subst, arith, get_or}
use Rattle.std.specs.Prelude.{◌&&◌, nat_eq, Option, Some, None, flat_map, slice_index_or, if◌then◌else◌}
use Rattle.std.specs.List.{All}
use Rattle.std.proofs.lemmas.Bool.{and_parts}
use Rattle.std.proofs.lemmas.List.{length-map, length-append, get_or_append_left, get_or-append-add}
use Rattle.int_ops.specs.Operation.{operation}
use Rattle.int_ops.specs.Wrapped.{InRange}
use Rattle.int_ops.proofs.Results.{cast_value_inside}
use Rattle.affine_ast.specs.declared.name.Name.{Name}
use Rattle.affine_ast.specs.declared.types.Access.{Access}
use Rattle.affine_ast.specs.declared.types.MemrefType.{MemrefType}
use Rattle.affine_ast.specs.declared.types.Scalar.{Scalar}
use Rattle.affine_ast.specs.declared.types.Scalar.TheVariants as scalar
use Rattle.affine_ast.specs.Names.{same_name, put}
use Rattle.affine_ast.proofs.Names.{put-other}
use Rattle.affine_ast.specs.Nest.{Plain, Nest, Nothing, Loop, Branch, Does, Value, Load, Store, RawLoad, RawStore, Constant, Binary, Cast, Alloc, Dealloc, Start, Wait, Return}
use Rattle.affine_ast.specs.Rules.{is_of, is_memref_of, are_indexes, casts_between, same_element, ends_typed}
use Rattle.affine_ast.specs.Scope.{Allocation, Scope, Totals, Around, counted, in_loop, in_condition, with_totals, behind_plain, binding_of_constant}
use Rattle.affine_ast.specs.Sizes.{element_bits, scalar_bits, product}
use Rattle.affine_ast.specs.Validity.{Passed, then_told, told, rule_of_plain, rule_of_loop, rule_of_condition}
use Rattle.bus_model.specs.declared.step.FaultKind.{FaultKind}
use Rattle.bus_model.specs.declared.step.FaultKind.TheVariants.{Touched, Tag}
use Rattle.bus_model.specs.declared.transfer.Transfer.{Transfer}
use Rattle.bus_model.specs.Places.{slow_place}
use Rattle.direct_meaning.specs.Action.{Home, SlowMemref, FastMemref, TagMemref, Place, Slow, Fast, Outside, Operand, Number, Action, Known, Sets, Loads, Stores, RawLoads, RawStores, Operates, Converts, Allocates, Releases, AllocatesTags, ReleasesTags, Starts, Waits, Faults, Returns}
use Rattle.direct_meaning.specs.Actions.{is_fast, fasts_of_plain, fasts_in, action_of, after_plain, after_alloc, alloc_of, dealloc_of, wait_of, behind, actions, after_constant, constant_of, layout_of}
use Rattle.direct_meaning.specs.Direct.{Outcome, End, read, raw_place, direct_step}
use Rattle.direct_meaning.specs.Static.{Env, knows, number, operand, results_of, place_at, place_of, tag_of, lower_of, upper_of, holds_at}
use Rattle.direct_meaning.specs.Turns.{turns, gap}
use Rattle.direct_meaning.proofs.WorkLaws.{all_between}
use Rattle.prompt_semantics.specs.Device.{Device, has_away, has_started}
use Rattle.prompt_semantics.specs.Prompt.{acts, prompt_step}
use Rattle.valid_laws.specs.Safe.{SafePlain, SafeTypes, SafeEnds, IsMemref, IsCount, SafeChunks, new_home, SafeNest}
use Rattle.valid_laws.proofs.Passing.{Holds as Passes, judged_passed, then_passed, plain_holds, loop_holds}
use Rattle.valid_laws.proofs.SafeHolds.{plain_stands, turn_stands}
use Rattle.valid_laws.proofs.Scoped.{ScopeStands}
use Rattle.valid_laws.proofs.Small.{small_between}
use Rattle.run_laws.proofs.Typed.{scalar_width, operand_reads, indexes_read, operation_fits}
use Rattle.run_parts.specs.Settled.{settled, settled_result, RawFits, CanSettle}
use Rattle.prompt_laws.specs.Reaches.{PlaceIn, HalfIn, StartIn, AllocIn, Reaches, FlightsFit, CanAct}
use Rattle.prompt_laws.specs.Rooms.{Room, room_of, no_room, room_at, rooms_of_plain, rooms_in}
use Rattle.prompt_laws.proofs.Held.{RoomIn, MemrefsLie, IsNoMemref, lies_put, lies_alloc, HalvesFit, Holds, SlowFits, static_more, data_more, holds_back, MemrefAt, memref_at, HalfAt, PlaceFits, place_fits, tested, load_ends, store_ends, result_ends, alloc_ends, tags_more, released_holds, wait_ends, StartFits, start_ends}
use Rattle.prompt_laws.proofs.Runs.{Ends, Keeps, keeps_nil, keeps_cons, keeps_append, keeps_turns, keeps_either, keeps_along}
use Rattle.prompt_laws.proofs.Starts.{layout_fits, start_is}

-- ---- the rooms of a text among those of a module

-- these rooms stand there, from a number on
pub record Laid (rooms : List Room) (at : ℕ) (xs : List Room) : Type 0 where
  pub inside : at + length xs ≤ length rooms
  pub same : (k : ℕ) → k < length xs → room_at rooms (at + k) ≡ room_at xs k

laid_left : (rooms : List Room) (at : ℕ) (xs ys : List Room) → Laid rooms at (xs ++ ys) → Laid rooms at xs
laid_left rooms at xs ys h = record {
  inside = let i = h.inside in omega (arith, i, length-append xs ys);
  same = λ k below. h.same k (omega (arith, length-append xs ys, below)) ∙ get_or_append_left xs ys no_room k below;
}

laid_right : (rooms : List Room) (at n : ℕ) (xs ys : List Room) → length xs ≡ n → Laid rooms at (xs ++ ys) → Laid rooms (at + n) ys
laid_right rooms at n xs ys long h = record {
  inside = let i = h.inside in omega (arith, i, length-append xs ys, long);
  same = λ k below.
      let e : at + n + k ≡ at + (length xs + k) = omega (arith, long) in
      ap (room_at rooms) e ∙ h.same (length xs + k) (omega (arith, length-append xs ys, below)) ∙ get_or-append-add xs ys k no_room;
}

plain_rooms : (p : Plain) → length (rooms_of_plain p) ≡ fasts_of_plain p
plain_rooms (Value r pick at) = refl
plain_rooms (Load r m at ty) = refl
plain_rooms (Store x m at ty) = refl
plain_rooms (RawLoad r m at ty) = refl
plain_rooms (RawStore x m at ty) = refl
plain_rooms (Constant r z ty) = refl
plain_rooms (Binary r op x y ty) = refl
plain_rooms (Cast r kind x from to) = refl
plain_rooms (Alloc r ty) = by (is_fast ty)
  where
    by : (t : Bool) → length (if t then room_of ty.element ty.sizes ∷ [] else []) ≡ (if t then 1 else 0)
    by true = refl
    by false = refl
plain_rooms (Dealloc m ty) = refl
plain_rooms (Start x xa y ya u ta n stride types) = refl
plain_rooms (Wait u at n ty) = refl
plain_rooms Return = refl

pub many_rooms : (n : Nest) → length (rooms_in n) ≡ fasts_in n
many_rooms Nothing = refl
many_rooms (Loop line v l u s body rest) = length-append (rooms_in body) (rooms_in rest) ∙ (λ i. many_rooms body i + many_rooms rest i)
many_rooms (Branch line set names first has other rest) =
    length-append (rooms_in first) (rooms_in other ++ rooms_in rest)
    ∙ (let a = length-append (rooms_in other) (rooms_in rest) in let b = many_rooms first in let c = many_rooms other in let d = many_rooms rest in omega (arith, a, b, c, d))
many_rooms (Does line p rest) = length-append (rooms_of_plain p) (rooms_in rest) ∙ (λ i. plain_rooms p i + many_rooms rest i)

-- ---- accesses by values

raw_fits : (home : Option Home) (ty : MemrefType) (subscripts : List Operand) → IsMemref home ty → length subscripts ≡ length ty.sizes → RawFits home ty.sizes subscripts
raw_fits None ty subscripts k e = absurd k.stands
raw_fits (Some (SlowMemref number first)) ty subscripts k e = record { sizes_positive = k.sizes; rank = let r = k.stands.rank in omega (arith, r); count = e; home_fits = let p = k.stands.places_fit in omega (arith, p) }
raw_fits (Some (FastMemref number)) ty subscripts k e = record { sizes_positive = k.sizes; rank = k.stands.rank; count = e; home_fits = (k.stands.has_halves, (let c = k.stands.cells_fit in omega (arith, c))) }
raw_fits (Some (TagMemref first)) ty subscripts k e = record { sizes_positive = k.sizes; rank = let r = k.stands.rank in omega (arith, r); count = e; home_fits = tt }

-- a constant is no memref
constant_home : (r : Name) (z : ℤ) (ty : Scalar) (e : Env) → (after_constant r z ty e).home ≡ e.home
constant_home r z (scalar.Int element) e = refl
constant_home r z scalar.Index e = refl

constant_no_memref : (z : ℤ) (ty : Scalar) → IsNoMemref (binding_of_constant z ty)
constant_no_memref z (scalar.Int element) widths rooms home = tt
constant_no_memref z scalar.Index widths rooms home = tt

-- ---- a plain statement

module _ (widths : List ℕ) (rooms : List Room) (filler : ℤ) (capacity : ℕ) where
  abbrev pub T : Scope → (Name → Option Home) → Device → Type 0
  T s home y = Holds widths rooms capacity s home y

  can_act : (a : Action) (s : Scope) (home : Name → Option Home) (y : Device) → T s home y → CanSettle a y.state.registers → Reaches rooms (settled y.state.registers a) y → CanAct rooms capacity a y
  can_act a s home y t settles reaches = record { settles = settles; reaches = reaches; live = t.live; flights = subst (λ n. FlightsFit n y.outstanding) (sym t.typed.cells.long) t.flights }

  place_in : (s : Scope) (home : Name → Option Home) (y : Device) (bits : ℕ) (place : Place) → T s home y → PlaceFits widths rooms capacity y.halves bits place → PlaceIn rooms y place
  place_in s home y bits (Slow place) t h = subst (λ n. place < n) (sym t.typed.cells.long) h.0
  place_in s home y bits (Fast number half cell) t h = (record { there = h.0.there; half_there = h.0.half_there; long = h.0.half.long }, h.1)
  place_in s home y bits Outside t h = tt

  module _ (a : Around) (rest : Nest) (e : Env) (h : ScopeStands a.scope e) (lies : MemrefsLie widths rooms a.scope e.home) where
    -- what an action needs, and what it leaves to the names behind it
    abbrev pub Takes : (b : Scope) (home : Name → Option Home) → Action → Device → Type 0
    Takes b home x y = CanAct rooms capacity x y × Ends (SlowFits widths) (T b home) (acts filler capacity x y)

    constant_takes : (r : Name) (z : ℤ) (ty : Scalar) (y : Device) → T a.scope e.home y → InRange (scalar_bits ty) z → Takes (put a.scope r (Some (binding_of_constant z ty))) e.home (constant_of r z ty) y
    unfolding acts direct_step
    constant_takes r z (scalar.Int element) y t k = (can_act _ a.scope e.home y t tt tt, data_more widths rooms capacity a.scope e.home r (scalar.Int element) z y k t)
    constant_takes r z scalar.Index y t k = (can_act _ a.scope e.home y t tt tt, static_more widths rooms capacity a.scope e.home r _ y (λ x. tt) (λ w m x. tt) t)

    result_reaches : (r : Name) (o : Option ℤ) (y : Device) → Reaches rooms (settled_result r o) y
    result_reaches r (Some z) y = tt
    result_reaches r None y = tt

    -- an allocation, by its space
    alloc_takes : (r : Name) (ty : MemrefType) (y : Device) (t : Bool) → is_fast ty ≡ t → T a.scope e.home y → IsMemref (Some (new_home e ty)) ty → (t ≡ true → (e.fasts < length rooms) × (room_at rooms e.fasts ≡ room_of ty.element ty.sizes))
        → Takes (put a.scope r (Some (Allocation ty))) (if t then record e { home = put e.home r (Some (FastMemref e.fasts)); fasts = suc e.fasts } else record e { home = put e.home r (Some (TagMemref e.tags)); tags = e.tags + product ty.sizes }).home
        (if t then Allocates e.fasts ty.element ty.sizes else AllocatesTags e.tags (product ty.sizes)) y
    unfolding acts
    alloc_takes r ty y true q t m room =
        let k = room refl in
        let stands : IsMemref (Some (FastMemref e.fasts)) ty = subst (λ b. IsMemref (Some (if b then FastMemref e.fasts else TagMemref e.tags)) ty) q m in
        (can_act _ a.scope e.home y t tt (record { there = k.0; room = k.1; sizes_fit = record { positive = stands.sizes; few = stands.stands.cells_fit } }), alloc_ends widths rooms capacity a.scope e.home y t filler r e.fasts ty k.1)
    alloc_takes r ty y false q t m room = (can_act _ a.scope e.home y t tt tt, tags_more widths rooms capacity a.scope e.home y t r e.tags ty)

    alloc_room : (ty : MemrefType) → is_fast ty ≡ true → Laid rooms e.fasts (if is_fast ty then room_of ty.element ty.sizes ∷ [] else []) → (e.fasts < length rooms) × (room_at rooms e.fasts ≡ room_of ty.element ty.sizes)
    alloc_room ty fast q =
        let here : Laid rooms e.fasts (room_of ty.element ty.sizes ∷ []) = subst (λ b. Laid rooms e.fasts (if b then room_of ty.element ty.sizes ∷ [] else [])) fast q in
        let i = here.inside in
        let z : e.fasts ≡ e.fasts + 0 = omega arith in
        (omega (arith, i), ap (room_at rooms) z ∙ here.same 0 (omega arith))

    -- a dealloc, by what its name stands for
    dealloc_takes : (home : Option Home) (ty : MemrefType) (y : Device) → T a.scope e.home y → IsMemref home ty → Takes a.scope e.home (dealloc_of home ty) y
    unfolding acts direct_step
    dealloc_takes None ty y t m = absurd m.stands
    dealloc_takes (Some (SlowMemref number first)) ty y t m = (can_act _ a.scope e.home y t tt tt, t)
    dealloc_takes (Some (FastMemref k)) ty y t m =
        (can_act _ a.scope e.home y t tt (record { positive = m.sizes; few = m.stands.cells_fit }), tested widths rooms capacity (T a.scope e.home) (has_away y.outstanding k) Touched y _ t.typed.cells (λ q. released_holds widths rooms capacity a.scope e.home y t _))
    dealloc_takes (Some (TagMemref first)) ty y t m =
        (can_act _ a.scope e.home y t tt tt, tested widths rooms capacity (T a.scope e.home) (has_started y.outstanding first (product ty.sizes)) Tag y _ t.typed.cells (λ q. t))

    wait_takes : (tag : Option ℕ) (count : ℕ) (y : Device) → T a.scope e.home y → Takes a.scope e.home (wait_of tag count) y
    unfolding acts
    wait_takes (Some tag) count y t = (can_act _ a.scope e.home y t tt tt, wait_ends widths rooms capacity a.scope e.home y t tag count)
    wait_takes None count y t = (can_act _ a.scope e.home y t tt tt, t.typed.cells)

    fault_takes : (k : FaultKind) (y : Device) → T a.scope e.home y → Takes a.scope e.home (Faults k) y
    unfolding acts
    fault_takes k y t = (can_act _ a.scope e.home y t tt tt, t.typed.cells)

    started_takes : (bits : ℕ) (u : Transfer) (y : Device) (t : T a.scope e.home y) → StartFits widths rooms capacity a.scope e.home y t bits u → Takes a.scope e.home (Starts u) y
    unfolding acts
    started_takes bits u y t k = (
      can_act _ a.scope e.home y t tt (record {
        half = record { there = k.half.there; half_there = k.half.half_there; long = k.half.half.long };
        inside = k.inside;
        tag_fits = k.tag_fits;
        some = k.some;
        some_chunk = k.some_chunk;
        apart = k.apart;
        places = λ i below. subst (λ n. slow_place u i < n) (sym t.typed.cells.long) (k.places i below).0;
        places_fit = k.places_fit;
      }),
      start_ends widths rooms capacity a.scope e.home y t bits u k,
    )

    start_takes : (x : Name) (xa : Access) (z : Name) (za : Access) (u : Name) (ua : Access) (n : Name) (stride : Option (Name × Name)) (types : List MemrefType) (y : Device)
        → SafeTypes e x xa z za u ua types → IsCount (e.known n) → SafeChunks e stride → ends_typed a.scope x z u types ≡ true → T a.scope e.home y → Takes a.scope e.home (action_of (Start x xa z za u ua n stride types) e) y
    unfolding action_of
    start_takes x xa z za u ua n stride [] y v c s k t = absurd v
    start_takes x xa z za u ua n stride (one ∷ []) y v c s k t = absurd v
    start_takes x xa z za u ua n stride (one ∷ two ∷ []) y v c s k t = absurd v
    start_takes x xa z za u ua n stride (one ∷ two ∷ three ∷ four ∷ more) y v c s k t = absurd v
    start_takes x xa z za u ua n stride (one ∷ two ∷ three ∷ []) y v c s k t =
        let p = and_parts (is_memref_of a.scope x one) (is_memref_of a.scope z two && (is_memref_of a.scope u three && same_element one.element two.element)) k in
        let q = and_parts (is_memref_of a.scope z two) (is_memref_of a.scope u three && same_element one.element two.element) p.1 in
        start_is widths rooms capacity a.scope e.home y t (element_bits one.element) (λ act. Takes a.scope e.home act y) (λ kind. fault_takes kind y t) (λ u' fits. started_takes (element_bits one.element) u' y t fits)
        (layout_of e n stride) (layout_fits e n stride c s) e x xa z za u ua one two three
        (memref_at widths rooms capacity a.scope e.home y x one lies t p.0) (memref_at widths rooms capacity a.scope e.home y z two lies t q.0) refl (sym v.elements) v.from.memref v.to.memref v.tag.memref

    pub action_takes : (p : Plain) (y : Device) → SafePlain e p → Passes (counted a) p rest → Laid rooms e.fasts (rooms_of_plain p) → T a.scope e.home y → Takes (behind_plain p (counted a)).scope (after_plain p e).home (action_of p e) y
    unfolding action_of after_plain acts direct_step place_of
    action_takes (Value r pick at) y v k q t = (can_act _ a.scope e.home y t tt tt, static_more widths rooms capacity a.scope e.home r _ y (λ x. tt) (λ w m x. tt) t)
    action_takes (Load r m at ty) y v k q t =
        let place = place_fits widths rooms capacity y.halves (e.home m) ty (results_of e at) (memref_at widths rooms capacity a.scope e.home y m ty lies t k.types) in
        (can_act _ a.scope e.home y t tt (place_in a.scope e.home y (element_bits ty.element) _ t place), load_ends widths rooms capacity a.scope e.home y t r (scalar.Int ty.element) _ place)
    action_takes (Store x m at ty) y v k q t =
        let two = and_parts (is_of a.scope x (scalar.Int ty.element)) (is_memref_of a.scope m ty) k.types in
        let place = place_fits widths rooms capacity y.halves (e.home m) ty (results_of e at) (memref_at widths rooms capacity a.scope e.home y m ty lies t two.1) in
        let z = operand_reads widths a.scope e h y.state t.typed x (scalar.Int ty.element) two.0 in
        (can_act _ a.scope e.home y t tt (place_in a.scope e.home y (element_bits ty.element) _ t place), store_ends widths rooms capacity a.scope e.home y t (element_bits ty.element) _ _ place z)
    action_takes (RawLoad r m at ty) y v k q t =
        let two = and_parts (is_memref_of a.scope m ty) (are_indexes a.scope at) k.types in
        let place = place_fits widths rooms capacity y.halves (e.home m) ty (map (read y.state.registers) (map (operand e) at)) (memref_at widths rooms capacity a.scope e.home y m ty lies t two.0) in
        (can_act _ a.scope e.home y t (raw_fits (e.home m) ty (map (operand e) at) v.memref (length-map at (operand e) ∙ v.subscripts)) (place_in a.scope e.home y (element_bits ty.element) _ t place), load_ends widths rooms capacity a.scope e.home y t r (scalar.Int ty.element) _ place)
    action_takes (RawStore x m at ty) y v k q t =
        let one = and_parts (is_of a.scope x (scalar.Int ty.element)) (is_memref_of a.scope m ty && are_indexes a.scope at) k.types in
        let two = and_parts (is_memref_of a.scope m ty) (are_indexes a.scope at) one.1 in
        let place = place_fits widths rooms capacity y.halves (e.home m) ty (map (read y.state.registers) (map (operand e) at)) (memref_at widths rooms capacity a.scope e.home y m ty lies t two.0) in
        let z = operand_reads widths a.scope e h y.state t.typed x (scalar.Int ty.element) one.0 in
        (can_act _ a.scope e.home y t (raw_fits (e.home m) ty (map (operand e) at) v.1.memref (length-map at (operand e) ∙ v.1.subscripts)) (place_in a.scope e.home y (element_bits ty.element) _ t place), store_ends widths rooms capacity a.scope e.home y t (element_bits ty.element) _ _ place z)
    action_takes (Constant r z ty) y v k q t =
        subst (λ home. Takes (put a.scope r (Some (binding_of_constant z ty))) home (constant_of r z ty) y) (sym (constant_home r z ty e)) (constant_takes r z ty y t v)
    action_takes (Binary r op x x' ty) y v k q t =
        let two = and_parts (is_of a.scope x ty) (is_of a.scope x' ty) k.types in
        let left = operand_reads widths a.scope e h y.state t.typed x ty two.0 in
        let right = operand_reads widths a.scope e h y.state t.typed x' ty two.1 in
        (can_act _ a.scope e.home y t (left, right) (result_reaches r _ y), result_ends widths rooms capacity a.scope e.home y t r ty _ (λ z is. operation_fits op ty _ _ z is))
    action_takes (Cast r kind x from to) y v k q t =
        let two = and_parts (is_of a.scope x from) (casts_between kind from to) k.types in
        let z = operand_reads widths a.scope e h y.state t.typed x from two.0 in
        (can_act _ a.scope e.home y t (v.1, z) tt, data_more widths rooms capacity a.scope e.home r to _ y (cast_value_inside kind (scalar_bits from) (scalar_bits to) _ (scalar_width to) v.1 z) t)
    action_takes (Alloc r ty) y v k q t = alloc_takes r ty y (is_fast ty) refl t v (λ fast. alloc_room ty fast q)
    action_takes (Dealloc m ty) y v k q t = dealloc_takes (e.home m) ty y t v.0
    action_takes (Start x xa z za u ua n stride types) y v k q t = start_takes x xa z za u ua n stride types y v.0 v.1 v.2 k.types t
    action_takes (Wait u at n ty) y v k q t = wait_takes (tag_of e u at ty) (gap (number (e.known n))) y t
    action_takes Return y v k q t = (can_act _ a.scope e.home y t tt tt, t)

  -- ---- memrefs behind it

  pub lies_behind : (a : Around) (p : Plain) (e : Env) → Laid rooms e.fasts (rooms_of_plain p) → MemrefsLie widths rooms a.scope e.home → MemrefsLie widths rooms (behind_plain p (counted a)).scope (after_plain p e).home
  unfolding after_plain
  lies_behind a (Value r pick at) e q h = lies_put widths rooms a.scope e.home r _ (λ w m x. tt) h
  lies_behind a (Load r m at ty) e q h = lies_put widths rooms a.scope e.home r _ (λ w m x. tt) h
  lies_behind a (Store x m at ty) e q h = h
  lies_behind a (RawLoad r m at ty) e q h = lies_put widths rooms a.scope e.home r _ (λ w m x. tt) h
  lies_behind a (RawStore x m at ty) e q h = h
  lies_behind a (Constant r z ty) e q h =
      subst (MemrefsLie widths rooms (put a.scope r (Some (binding_of_constant z ty)))) (sym (constant_home r z ty e)) (lies_put widths rooms a.scope e.home r (binding_of_constant z ty) (constant_no_memref z ty) h)
  lies_behind a (Binary r op x y ty) e q h = lies_put widths rooms a.scope e.home r _ (λ w m x. tt) h
  lies_behind a (Cast r kind x from to) e q h = lies_put widths rooms a.scope e.home r _ (λ w m x. tt) h
  lies_behind a (Alloc r ty) e q h = by (is_fast ty) q
    where
      by : (t : Bool) → Laid rooms e.fasts (if t then room_of ty.element ty.sizes ∷ [] else [])
          → MemrefsLie widths rooms (put a.scope r (Some (Allocation ty))) (if t then record e { home = put e.home r (Some (FastMemref e.fasts)); fasts = suc e.fasts } else record e { home = put e.home r (Some (TagMemref e.tags)); tags = e.tags + product ty.sizes }).home
      by true here =
          let i = here.inside in
          let z : e.fasts ≡ e.fasts + 0 = omega arith in
          lies_alloc widths rooms a.scope e.home r ty (FastMemref e.fasts) (omega (arith, i), ap (room_at rooms) z ∙ here.same 0 (omega arith)) h
      by false here = lies_alloc widths rooms a.scope e.home r ty (TagMemref e.tags) tt h
  lies_behind a (Dealloc m ty) e q h = h
  lies_behind a (Start x xa y ya u ta n stride types) e q h = h
  lies_behind a (Wait u at n ty) e q h = h
  lies_behind a Return e q h = h

  -- the names before it hold what they held
  pub back_before : (a : Around) (p : Plain) (rest : Nest) (e : Env) (y : Device) → Passes (counted a) p rest → T (behind_plain p (counted a)).scope (after_plain p e).home y → T a.scope e.home y
  unfolding after_plain
  back_before a (Value r pick at) rest e y k t = holds_back widths rooms capacity a.scope e.home e.home r _ y k.new_name (λ n q. refl) t
  back_before a (Load r m at ty) rest e y k t = holds_back widths rooms capacity a.scope e.home e.home r _ y k.new_name (λ n q. refl) t
  back_before a (Store x m at ty) rest e y k t = t
  back_before a (RawLoad r m at ty) rest e y k t = holds_back widths rooms capacity a.scope e.home e.home r _ y k.new_name (λ n q. refl) t
  back_before a (RawStore x m at ty) rest e y k t = t
  back_before a (Constant r z ty) rest e y k t = holds_back widths rooms capacity a.scope e.home (after_constant r z ty e).home r _ y k.new_name (λ n q. ap (λ home. home n) (constant_home r z ty e)) t
  back_before a (Binary r op x x' ty) rest e y k t = holds_back widths rooms capacity a.scope e.home e.home r _ y k.new_name (λ n q. refl) t
  back_before a (Cast r kind x from to) rest e y k t = holds_back widths rooms capacity a.scope e.home e.home r _ y k.new_name (λ n q. refl) t
  back_before a (Alloc r ty) rest e y k t = holds_back widths rooms capacity a.scope e.home (after_alloc r ty e).home r _ y k.new_name (λ n q. by (is_fast ty) n q) t
    where
      by : (t : Bool) (n : Name) → same_name r n ≡ false → (if t then record e { home = put e.home r (Some (FastMemref e.fasts)); fasts = suc e.fasts } else record e { home = put e.home r (Some (TagMemref e.tags)); tags = e.tags + product ty.sizes }).home n ≡ e.home n
      by true n q = put-other e.home r (Some (FastMemref e.fasts)) n q
      by false n q = put-other e.home r (Some (TagMemref e.tags)) n q
  back_before a (Dealloc m ty) rest e y k t = t
  back_before a (Start x xa z za u ta n stride types) rest e y k t = t
  back_before a (Wait u at n ty) rest e y k t = t
  back_before a Return rest e y k t = t

  -- ---- along the list

  counts_fasts : (p : Plain) (e : Env) → (after_plain p e).fasts ≡ e.fasts + fasts_of_plain p
  unfolding after_plain
  counts_fasts (Value r pick at) e = omega arith
  counts_fasts (Load r m at ty) e = omega arith
  counts_fasts (Store x m at ty) e = omega arith
  counts_fasts (RawLoad r m at ty) e = omega arith
  counts_fasts (RawStore x m at ty) e = omega arith
  counts_fasts (Constant r z (scalar.Int element)) e = omega arith
  counts_fasts (Constant r z scalar.Index) e = omega arith
  counts_fasts (Binary r op x y ty) e = omega arith
  counts_fasts (Cast r kind x from to) e = omega arith
  counts_fasts (Alloc r ty) e = by (is_fast ty)
    where
      by : (t : Bool) → (if t then record e { home = put e.home r (Some (FastMemref e.fasts)); fasts = suc e.fasts } else record e { home = put e.home r (Some (TagMemref e.tags)); tags = e.tags + product ty.sizes }).fasts ≡ e.fasts + (if t then 1 else 0)
      by true = omega arith
      by false = omega arith
  counts_fasts (Dealloc m ty) e = omega arith
  counts_fasts (Start x xa y ya u ta n stride types) e = omega arith
  counts_fasts (Wait u at n ty) e = omega arith
  counts_fasts Return e = omega arith

  -- what an action reaches isn't changed by the count
  uncounted : (a : Action) (y : Device) → Reaches rooms a (record y { actions = suc y.actions }) → Reaches rooms a y
  uncounted (Loads r place) y h = uncounted_place place h
    where
      uncounted_place : (place : Place) → PlaceIn rooms (record y { actions = suc y.actions }) place → PlaceIn rooms y place
      uncounted_place (Slow place) h = h
      uncounted_place (Fast number half cell) h = h
      uncounted_place Outside h = h
  uncounted (Stores x place) y h = uncounted_place place h
    where
      uncounted_place : (place : Place) → PlaceIn rooms (record y { actions = suc y.actions }) place → PlaceIn rooms y place
      uncounted_place (Slow place) h = h
      uncounted_place (Fast number half cell) h = h
      uncounted_place Outside h = h
  uncounted (Starts t) y h = record { half = h.half; inside = h.inside; tag_fits = h.tag_fits; some = h.some; some_chunk = h.some_chunk; apart = h.apart; places = h.places; places_fit = h.places_fit }
  uncounted (Allocates number element sizes) y h = h
  uncounted (Releases number element sizes) y h = h
  uncounted Known y h = h
  uncounted (Sets r z) y h = h
  uncounted (RawLoads r home sizes subscripts) y h = h
  uncounted (RawStores x home sizes subscripts) y h = h
  uncounted (Operates r op bits a b) y h = h
  uncounted (Converts r kind from to x) y h = h
  uncounted (AllocatesTags first count) y h = h
  uncounted (ReleasesTags first count) y h = h
  uncounted (Waits tag count) y h = h
  uncounted (Faults k) y h = h
  uncounted Returns y h = h

  -- the step counts the action, and nothing else that holds
  counted_holds : (s : Scope) (home : Name → Option Home) (y : Device) → T s home y → T s home (record y { actions = suc y.actions })
  counted_holds s home y t = record { typed = t.typed; halves = t.halves; live = t.live; flights = t.flights }

  abbrev pub Kept : (Device → Type 0) → (Device → Type 0) → List Action → Type 0
  Kept from to xs = Keeps (prompt_step filler capacity) (CanAct rooms capacity) (SlowFits widths) from to xs

  pub runs_of_told : (n : Nest) (a : Around) (t : Totals) (e : Env) → ScopeStands a.scope e → MemrefsLie widths rooms a.scope e.home → SafeNest n e → Laid rooms e.fasts (rooms_in n) → told n a ≡ Passed t
      → Kept (T a.scope e.home) (T a.scope e.home) (actions n e)
  unfolding told actions prompt_step acts
  runs_of_told Nothing a t e h lies v q k = keeps_nil (prompt_step filler capacity) (CanAct rooms capacity) (SlowFits widths) _ _ (λ s h. h)
  runs_of_told (Loop line x l u s body rest) a t e h lies v q k =
      let j = judged_passed line (rule_of_loop (counted a) x l u s) _ t k in
      let p = then_passed (told body (in_loop x l u (counted a))) (λ t. told rest (with_totals t a)) t j.1 in
      let new = (loop_holds (counted a) x l u s j.0).new_name in
      let inner = λ (z : ℤ) (from : lower_of e l ≤ℤ z) (to : z <ℤ upper_of e u).
      keeps_along (prompt_step filler capacity) (CanAct rooms capacity) (SlowFits widths) _ _ _ _ (actions body (knows e x z)) (λ y h. static_more widths rooms capacity a.scope e.home x _ y (λ b. tt) (λ w m b. tt) h) (λ y h. holds_back widths rooms capacity a.scope e.home e.home x _ y new (λ n q. refl) h)
      (runs_of_told body (in_loop x l u (counted a)) p.0 (knows e x z) (turn_stands a.scope e x _ z h new (small_between _ _ z v.1.lower_small v.1.upper_small from to)) (lies_put widths rooms a.scope e.home x _ (λ w m b. tt) lies) (v.2 z from to) (laid_left rooms e.fasts (rooms_in body) (rooms_in rest) q) p.1) in
      keeps_append (prompt_step filler capacity) (CanAct rooms capacity) (SlowFits widths) _ _ _ (flat_map (λ t. actions body (knows e x t)) (turns (lower_of e l) (upper_of e u) s)) (actions rest (behind body e))
      (keeps_turns (prompt_step filler capacity) (CanAct rooms capacity) (SlowFits widths) _ (lower_of e l) (upper_of e u) (λ t. actions body (knows e x t)) (turns (lower_of e l) (upper_of e u) s) (all_between (lower_of e l) (upper_of e u) s) inner)
      (runs_of_told rest (with_totals p.0 a) t (behind body e) h lies v.3 (laid_right rooms e.fasts (fasts_in body) (rooms_in body) (rooms_in rest) (many_rooms body) q) p.2)
  runs_of_told (Branch line set names first has other rest) a t e h lies v q k =
      let j = judged_passed line (rule_of_condition (counted a) set names) _ t k in
      let p = then_passed (told first (in_condition (counted a))) (λ t. then_told (told other (in_condition (with_totals t a))) (λ u. told rest (with_totals u a))) t j.1 in
      let r = then_passed (told other (in_condition (with_totals p.0 a))) (λ u. told rest (with_totals u a)) t p.2 in
      let two = laid_right rooms e.fasts (fasts_in first) (rooms_in first) (rooms_in other ++ rooms_in rest) (many_rooms first) q in
      keeps_append (prompt_step filler capacity) (CanAct rooms capacity) (SlowFits widths) _ _ _ (if holds_at e set names then actions first e else actions other (behind first e)) (actions rest (behind other (behind first e)))
      (keeps_either (prompt_step filler capacity) (CanAct rooms capacity) (SlowFits widths) _ _ (holds_at e set names) (actions first e) (actions other (behind first e))
      (runs_of_told first (in_condition (counted a)) p.0 e h lies v.2 (laid_left rooms e.fasts (rooms_in first) (rooms_in other ++ rooms_in rest) q) p.1)
      (runs_of_told other (in_condition (with_totals p.0 a)) r.0 (behind first e) h lies v.3 (laid_left rooms (e.fasts + fasts_in first) (rooms_in other) (rooms_in rest) two) r.1))
      (runs_of_told rest (with_totals r.0 a) t (behind other (behind first e)) h lies v.4 (laid_right rooms (e.fasts + fasts_in first) (fasts_in other) (rooms_in other) (rooms_in rest) (many_rooms other) two) r.2)
  runs_of_told (Does line p rest) a t e h lies v q k =
      let j = judged_passed line (rule_of_plain (counted a) p rest) _ t k in
      let holds = plain_holds (counted a) p rest j.0 in
      let here = laid_left rooms e.fasts (rooms_of_plain p) (rooms_in rest) q in
      let next = subst (λ at. Laid rooms at (rooms_in rest)) (sym (counts_fasts p e)) (laid_right rooms e.fasts (fasts_of_plain p) (rooms_of_plain p) (rooms_in rest) (plain_rooms p) q) in
      keeps_cons (prompt_step filler capacity) (CanAct rooms capacity) (SlowFits widths) _ (T (behind_plain p (counted a)).scope (after_plain p e).home) _ (action_of p e) (actions rest (after_plain p e)) (λ y typed. takes p e y v.1 holds here h lies typed)
      (keeps_along (prompt_step filler capacity) (CanAct rooms capacity) (SlowFits widths) _ _ _ _ (actions rest (after_plain p e)) (λ s h. h) (λ y h. back_before a p rest e y holds h)
      (runs_of_told rest (behind_plain p (counted a)) t (after_plain p e) (plain_stands a p rest e h holds v.1) (lies_behind a p e here lies) v.2 next j.1))
    where
      takes : (p : Plain) (e : Env) (y : Device) → SafePlain e p → Passes (counted a) p rest → Laid rooms e.fasts (rooms_of_plain p) → ScopeStands a.scope e → MemrefsLie widths rooms a.scope e.home → T a.scope e.home y
          → CanAct rooms capacity (action_of p e) y × Ends (SlowFits widths) (T (behind_plain p (counted a)).scope (after_plain p e).home) (prompt_step filler capacity (action_of p e) y)
      takes p e y v holds here h lies typed =
          let one = action_takes a rest e h lies p (record y { actions = suc y.actions }) v holds here (counted_holds a.scope e.home y typed) in
          (record { settles = one.0.settles; reaches = uncounted (settled y.state.registers (action_of p e)) y one.0.reaches; live = one.0.live; flights = one.0.flights }, one.1)
