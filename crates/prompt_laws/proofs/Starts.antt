-- A start of a valid text is a fault, or a transfer that fits.
use Rattle.std.proofs.Common.{◌≡◌, ℕ, zero, suc, ◌+◌, ◌*◌, ◌/◌, ◌%◌, ◌-◌, ◌<◌, ◌≤◌, ℤ, pos, Bool, true, false, List, [], ◌∷◌, length, map, refl, sym, ap, ◌∙◌, subst, arith}
use Rattle.std.specs.Prelude.{nat_eq, nat_le, nat_lt, Option, Some, None, slice_index_or, if◌then◌else◌}
use Rattle.std.specs.List.{list_all, range_with_len}
use Rattle.std.proofs.lemmas.Bool.{and_parts, ltb-true, leb-true}
use Rattle.affine_ast.specs.declared.name.Name.{Name}
use Rattle.affine_ast.specs.declared.types.Access.{Access}
use Rattle.affine_ast.specs.declared.types.MemrefType.{MemrefType}
use Rattle.affine_ast.specs.Sizes.{element_bits, product}
use Rattle.bus_model.specs.declared.step.FaultKind.{FaultKind}
use Rattle.bus_model.specs.declared.step.FaultKind.TheVariants.{Bounds, Shape}
use Rattle.bus_model.specs.declared.transfer.Transfer.{Transfer}
use Rattle.bus_model.specs.Places.{slow_place}
use Rattle.direct_meaning.specs.Transfers.{ends_by}
use Rattle.direct_meaning.specs.Turns.{gap}
use Rattle.direct_meaning.specs.Action.{Home, SlowMemref, FastMemref, TagMemref, Place, Slow, Fast, Outside, Action, Starts, Faults}
use Rattle.direct_meaning.specs.Actions.{half_cells, Layout, layout_of, has_shape, started, transfer_of, start_between, start_of}
use Rattle.direct_meaning.specs.Static.{Env, number, results_of, cell_in, slow_at, fast_at, half_place, place_at, place_of, tag_at, tag_of}
use Rattle.prompt_semantics.specs.Device.{Device}
use Rattle.valid_laws.specs.Safe.{IsMemref, IsCount, SafeChunks}
use Rattle.run_laws.proofs.Cells.{LiesAt, cell_below}
use Rattle.affine_ast.specs.Scope.{Scope}
use Rattle.prompt_laws.specs.Rooms.{Room, room_of, room_at}
use Rattle.prompt_laws.proofs.Held.{Holds, MemrefAt, HalfAt, StartFits, PlaceFits, place_fits}

-- ---- counts and chunks

pub record LayoutFits (l : Layout) : Type 0 where
  pub some : 1 ≤ l.count
  pub some_chunk : 1 ≤ l.chunk
  pub apart : l.chunk ≤ l.stride

known_is : (o : Option ℤ) (v : ℕ) → o ≡ Some (pos v) → gap (number o) ≡ v
known_is o v e = ap (λ o. gap (number o)) e

pub layout_fits : (e : Env) (n : Name) (stride : Option (Name × Name)) → IsCount (e.known n) → SafeChunks e stride → LayoutFits (layout_of e n stride)
layout_fits e n None c s = let k = known_is (e.known n) c.value c.is in let l = c.least in record { some = omega (arith, k, l); some_chunk = omega (arith, k, l); apart = omega arith }
layout_fits e n (Some two) c s =
    let k = known_is (e.known n) c.value c.is in
    let a = known_is (e.known two.0) s.stride s.stride_is in
    let b = known_is (e.known two.1) s.chunk s.chunk_is in
    record { some = omega (arith, k, c.least); some_chunk = omega (arith, b, s.least); apart = omega (arith, a, b, s.within) }

-- each place passes a test that all pass
all_pass : (p : ℕ → Bool) (f : ℕ → ℕ) (a n : ℕ) → list_all p (map f (range_with_len a n)) ≡ true → (e : ℕ) → e < n → p (f (a + e)) ≡ true
all_pass p f a zero h e lt = absurd (omega (arith, lt))
all_pass p f a (suc n) h zero lt = ap (λ k. p (f k)) (plus a) ∙ (and_parts (p (f a)) (list_all p (map f (range_with_len (a + 1) n))) h).0
  where
    plus : (a : ℕ) → a + 0 ≡ a
    plus a = omega arith
all_pass p f a (suc n) h (suc e) lt = ap (λ k. p (f k)) (plus a e) ∙ all_pass p f (a + 1) n (and_parts (p (f a)) (list_all p (map f (range_with_len (a + 1) n))) h).1 e (omega (arith, lt))
  where
    plus : (a e : ℕ) → a + suc e ≡ a + 1 + e
    plus a e = omega arith

slow_base : (first base : ℕ) (o : Option ℕ) → slow_at first o ≡ Slow base → first ≤ base
slow_base first base (Some c) e = let k : first + c ≡ base = cc in omega (arith, k)
slow_base first base None e = absurd (let z : ⊥ = cc in z)

-- no element lies before the base
after_base : (t : Transfer) (e : ℕ) → t.base ≤ slow_place t e
unfolding slow_place
after_base t e = omega arith

-- ---- a tag

pub tag_below : (home : Option Home) (ty : MemrefType) (zs : List ℤ) (tag : ℕ) → IsMemref home ty → tag_at home (cell_in ty.sizes zs) ≡ Some tag → tag < 65536
tag_below home ty zs tag m e = by home m (cell_in ty.sizes zs) refl e
  where
    by : (home : Option Home) → IsMemref home ty → (o : Option ℕ) → cell_in ty.sizes zs ≡ o → tag_at home o ≡ Some tag → tag < 65536
    by (Some (TagMemref first)) m (Some c) q e =
        let k : first + c ≡ tag = cc in
        let l = cell_below ty.sizes zs c q in
        let n = m.stands.numbers_fit in
        omega (arith, k, l, n)
    by (Some (TagMemref first)) m None q e = absurd (let z : ⊥ = cc in z)
    by (Some (SlowMemref number first)) m o q e = absurd (let z : ⊥ = cc in z)
    by (Some (FastMemref number)) m o q e = absurd (let z : ⊥ = cc in z)
    by None m o q e = absurd (let z : ⊥ = cc in z)

-- ---- a start

module _ (widths : List ℕ) (rooms : List Room) (capacity : ℕ) (s : Scope) (at_home : Name → Option Home) (y : Device) (h : Holds widths rooms capacity s at_home y) (bits : ℕ) (P : Action → Type 0) (fault : (k : FaultKind) → P (Faults k))
    (start : (t : Transfer) → StartFits widths rooms capacity s at_home y h bits t → P (Starts t)) where
  -- an end in fast memory
  abbrev FastEnd : MemrefType → Place → Type 0
  FastEnd ty place = (number half cell : ℕ) → place ≡ Fast number half cell → HalfAt widths rooms capacity y.halves bits number half × ((room_at rooms number).cells ≡ half_cells ty.sizes)

  abbrev SlowEnd : ℕ → Place → Type 0
  SlowEnd first place = (base : ℕ) → place ≡ Slow base → first ≤ base

  module _ (layout : Layout) (fits : LayoutFits layout) where
    started_is : (first : ℕ) (slow_ty : MemrefType) (t : Transfer) (cells : ℕ) → LiesAt widths first slow_ty → first + product slow_ty.sizes ≤ 1048576 → element_bits slow_ty.element ≡ bits → first ≤ t.base → HalfAt widths rooms capacity y.halves bits t.fast t.half → (room_at rooms t.fast).cells ≡ cells
        → 1 ≤ t.count → 1 ≤ t.chunk → t.chunk ≤ t.stride → t.tag < 65536 → P (started t (first + product slow_ty.sizes) cells)
    started_is first slow_ty t cells lies limit same low half room some chunk apart tag = by (ends_by t (first + product slow_ty.sizes)) (has_shape t cells) refl refl
      where
        place : ends_by t (first + product slow_ty.sizes) ≡ true → (e : ℕ) → e < t.count → (slow_place t e < length widths) × (slice_index_or widths (slow_place t e) 0 ≡ bits)
        place p e below =
            let z : 0 + e ≡ e = omega arith in
            let q = ltb-true (slow_place t (0 + e)) (first + product slow_ty.sizes) (all_pass (λ place. nat_lt place (first + product slow_ty.sizes)) (slow_place t) 0 t.count p e below) in
            let m : slow_place t (0 + e) ≡ slow_place t e = ap (slow_place t) z in
            let b = after_base t e in
            let c : slow_place t e - first < product slow_ty.sizes = omega (arith, q, m, b, low) in
            let back : first + (slow_place t e - first) ≡ slow_place t e = omega (arith, b, low) in
            (omega (arith, q, m, lies.places), ap (λ k. slice_index_or widths k 0) (sym back) ∙ lies.cells (slow_place t e - first) c ∙ same)

        below_end : ends_by t (first + product slow_ty.sizes) ≡ true → (e : ℕ) → e < t.count → slow_place t e < first + product slow_ty.sizes
        below_end p e below =
            let z : 0 + e ≡ e = omega arith in
            let q = ltb-true (slow_place t (0 + e)) (first + product slow_ty.sizes) (all_pass (λ place. nat_lt place (first + product slow_ty.sizes)) (slow_place t) 0 t.count p e below) in
            let m : slow_place t (0 + e) ≡ slow_place t e = ap (slow_place t) z in
            omega (arith, q, m)

        by : (b c : Bool) → ends_by t (first + product slow_ty.sizes) ≡ b → has_shape t cells ≡ c → P (if b then (if c then Starts t else Faults Shape) else Faults Bounds)
        by true true p q = start t (record {
          half = half;
          inside = let i = leb-true (t.offset + t.count) cells (and_parts (nat_le (t.offset + t.count) cells) (nat_eq (t.count % t.chunk) 0) q).0 in omega (arith, i, room);
          tag_fits = tag;
          some = some;
          some_chunk = chunk;
          apart = apart;
          places = place p;
          places_fit = λ e below. (let q' = below_end p e below in omega (arith, q', limit));
        })
        by true false p q = fault Shape
        by false c p q = fault Bounds

    transfer_is : (incoming : Bool) (memref first : ℕ) (slow_ty fast_ty : MemrefType) (a b : Place) (tag : Option ℕ) → LiesAt widths first slow_ty → first + product slow_ty.sizes ≤ 1048576 → element_bits slow_ty.element ≡ bits → SlowEnd first a → FastEnd fast_ty b → ((g : ℕ) → tag ≡ Some g → g < 65536)
        → P (transfer_of incoming memref first slow_ty fast_ty layout a b tag)
    transfer_is incoming memref first slow_ty fast_ty (Slow base) (Fast number half cell) (Some g) lies limit same low room tag =
        let end = room number half cell refl in
        started_is first slow_ty _ (half_cells fast_ty.sizes) lies limit same (low base refl) end.0 end.1 fits.some fits.some_chunk fits.apart (tag g refl)
    transfer_is incoming memref first slow_ty fast_ty (Slow base) (Fast number half cell) None lies limit same low room tag = fault Bounds
    transfer_is incoming memref first slow_ty fast_ty (Slow base) (Slow b) t lies limit same low room tag = fault Bounds
    transfer_is incoming memref first slow_ty fast_ty (Slow base) Outside t lies limit same low room tag = fault Bounds
    transfer_is incoming memref first slow_ty fast_ty (Fast n h c) b t lies limit same low room tag = fault Bounds
    transfer_is incoming memref first slow_ty fast_ty Outside b t lies limit same low room tag = fault Bounds

    -- an end in a fast memref
    fast_number : (j : ℕ) (o c : Option ℕ) (number half cell : ℕ) → fast_at j o c ≡ Fast number half cell → j ≡ number
    fast_number j (Some h) (Some c) number half cell e = cc
    fast_number j (Some h) None number half cell e = absurd (let z : ⊥ = cc in z)
    fast_number j None c number half cell e = absurd (let z : ⊥ = cc in z)

    half_number : (j : ℕ) (sizes : List ℕ) (zs : List ℤ) (number half cell : ℕ) → half_place j sizes zs ≡ Fast number half cell → j ≡ number
    half_number j [] zs number half cell e = absurd (let z : ⊥ = cc in z)
    half_number j (n ∷ sizes) [] number half cell e = absurd (let z : ⊥ = cc in z)
    half_number j (n ∷ sizes) (z ∷ zs) number half cell e = fast_number j _ _ number half cell e

    fast_end : (k : ℕ) (ty : MemrefType) (zs : List ℤ) → MemrefAt widths rooms capacity y.halves (Some (FastMemref k)) ty → element_bits ty.element ≡ bits → FastEnd ty (place_at (Some (FastMemref k)) ty.sizes zs)
    fast_end k ty zs m same number half cell e =
        let p : PlaceFits widths rooms capacity y.halves bits (Fast number half cell) = subst (PlaceFits widths rooms capacity y.halves bits) e (subst (λ b. PlaceFits widths rooms capacity y.halves b (place_at (Some (FastMemref k)) ty.sizes zs)) same (place_fits widths rooms capacity y.halves (Some (FastMemref k)) ty zs m)) in
        (p.0, ap (λ j. (room_at rooms j).cells) (sym (half_number k ty.sizes zs number half cell e)) ∙ ap (λ (r : Room). r.cells) m.1)

    slow_end : (number first : ℕ) (sizes : List ℕ) (zs : List ℤ) → SlowEnd first (place_at (Some (SlowMemref number first)) sizes zs)
    slow_end number first sizes zs base e = slow_base first base (cell_in sizes zs) e

    no_end : (ty : MemrefType) → FastEnd ty Outside
    no_end ty number half cell e = absurd (let z : ⊥ = cc in z)

    not_fast : (number first : ℕ) (ty ty' : MemrefType) (zs : List ℤ) → FastEnd ty (place_at (Some (SlowMemref number first)) ty'.sizes zs)
    not_fast j first ty ty' zs number half cell e = absurd (never (cell_in ty'.sizes zs) e)
      where
        never : (o : Option ℕ) → slow_at first o ≡ Fast number half cell → ⊥
        never (Some c) e = cc
        never None e = cc

    any_end : (home : Option Home) (ty : MemrefType) (zs : List ℤ) → MemrefAt widths rooms capacity y.halves home ty → element_bits ty.element ≡ bits → FastEnd ty (place_at home ty.sizes zs)
    any_end None ty zs m same = absurd m
    any_end (Some (SlowMemref number first)) ty zs m same = not_fast number first ty ty zs
    any_end (Some (FastMemref k)) ty zs m same = fast_end k ty zs m same
    any_end (Some (TagMemref first)) ty zs m same = no_end ty

    between_is : (a b : Option Home) (a_ty b_ty : MemrefType) (za zb : List ℤ) (tag : Option ℕ) → MemrefAt widths rooms capacity y.halves a a_ty → MemrefAt widths rooms capacity y.halves b b_ty → element_bits a_ty.element ≡ bits → element_bits b_ty.element ≡ bits → IsMemref a a_ty → IsMemref b b_ty → ((g : ℕ) → tag ≡ Some g → g < 65536)
        → P (start_between a b (place_at a a_ty.sizes za) (place_at b b_ty.sizes zb) a_ty b_ty layout tag)
    between_is (Some (SlowMemref j first)) b a_ty b_ty za zb tag fa fb sa sb ma mb ft = transfer_is true j first a_ty b_ty _ (place_at b b_ty.sizes zb) tag fa ma.stands.places_fit sa (slow_end j first a_ty.sizes za) (any_end b b_ty zb fb sb) ft
    between_is (Some (FastMemref k)) (Some (SlowMemref j first)) a_ty b_ty za zb tag fa fb sa sb ma mb ft = transfer_is false j first b_ty a_ty _ _ tag fb mb.stands.places_fit sb (slow_end j first b_ty.sizes zb) (fast_end k a_ty za fa sa) ft
    between_is (Some (FastMemref k)) (Some (FastMemref l)) a_ty b_ty za zb tag fa fb sa sb ma mb ft = fault Bounds
    between_is (Some (FastMemref k)) (Some (TagMemref l)) a_ty b_ty za zb tag fa fb sa sb ma mb ft = fault Bounds
    between_is (Some (FastMemref k)) None a_ty b_ty za zb tag fa fb sa sb ma mb ft = fault Bounds
    between_is (Some (TagMemref k)) (Some (SlowMemref j first)) a_ty b_ty za zb tag fa fb sa sb ma mb ft = transfer_is false j first b_ty a_ty _ Outside tag fb mb.stands.places_fit sb (slow_end j first b_ty.sizes zb) (no_end a_ty) ft
    between_is (Some (TagMemref k)) (Some (FastMemref l)) a_ty b_ty za zb tag fa fb sa sb ma mb ft = fault Bounds
    between_is (Some (TagMemref k)) (Some (TagMemref l)) a_ty b_ty za zb tag fa fb sa sb ma mb ft = fault Bounds
    between_is (Some (TagMemref k)) None a_ty b_ty za zb tag fa fb sa sb ma mb ft = fault Bounds
    between_is None b a_ty b_ty za zb tag fa fb sa sb ma mb ft = absurd fa

    pub start_is : (e : Env) (a : Name) (a_at : Access) (b : Name) (b_at : Access) (t : Name) (t_at : Access) (a_ty b_ty t_ty : MemrefType)
        → MemrefAt widths rooms capacity y.halves (e.home a) a_ty → MemrefAt widths rooms capacity y.halves (e.home b) b_ty → element_bits a_ty.element ≡ bits → element_bits b_ty.element ≡ bits → IsMemref (e.home a) a_ty → IsMemref (e.home b) b_ty → IsMemref (e.home t) t_ty
        → P (start_of e a a_at b b_at t t_at layout (a_ty ∷ b_ty ∷ t_ty ∷ []))
    unfolding place_of tag_of
    start_is e a a_at b b_at t t_at a_ty b_ty t_ty fa fb sa sb ma mb mt =
        between_is (e.home a) (e.home b) a_ty b_ty (results_of e a_at) (results_of e b_at) (tag_at (e.home t) (cell_in t_ty.sizes (results_of e t_at))) fa fb sa sb ma mb (λ g q. tag_below (e.home t) t_ty (results_of e t_at) g mt q)
