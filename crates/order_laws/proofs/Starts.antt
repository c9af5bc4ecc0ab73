-- A start of a valid text is a fault, or a transfer that fits.
use Rattle.std.proofs.Common.{◌≡◌, ℕ, zero, suc, ◌+◌, ◌%◌, ◌<◌, ◌≤◌, ℤ, pos, Bool, true, false, List, [], ◌∷◌, map, refl, ap, ◌∙◌, subst, arith}
use Rattle.std.specs.Prelude.{nat_eq, nat_le, nat_lt, Option, Some, None, if◌then◌else◌}
use Rattle.std.specs.List.{list_all, range_with_len}
use Rattle.std.proofs.lemmas.Bool.{and_parts, ltb-true, leb-true}
use Rattle.affine_ast.specs.declared.name.Name.{Name}
use Rattle.affine_ast.specs.declared.types.Access.{Access}
use Rattle.affine_ast.specs.declared.types.MemrefType.{MemrefType}
use Rattle.affine_ast.specs.Sizes.{product}
use Rattle.bus_model.specs.declared.step.FaultKind.{FaultKind}
use Rattle.bus_model.specs.declared.step.FaultKind.TheVariants.{Bounds, Shape}
use Rattle.bus_model.specs.declared.transfer.Transfer.{Transfer}
use Rattle.bus_model.specs.Places.{slow_place}
use Rattle.direct_meaning.specs.Transfers.{ends_by}
use Rattle.direct_meaning.specs.Turns.{gap}
use Rattle.direct_meaning.specs.Action.{Home, SlowMemref, FastMemref, TagMemref, Place, Slow, Fast, Outside, Action, Starts, Faults}
use Rattle.direct_meaning.specs.Actions.{half_cells, Layout, layout_of, has_shape, started, transfer_of, start_between, start_of}
use Rattle.direct_meaning.specs.Static.{Env, number, results_of, within, cell_in, slow_at, fast_at, half_place, place_at, place_of, tag_at, tag_of}
use Rattle.valid_laws.specs.Safe.{IsCount, SafeChunks}
use Rattle.run_laws.proofs.Cells.{cell_below}
use Rattle.order_meaning.specs.Orderly.{Rooms, FitsTransfer}

-- ---- where an element is

slow_not_fast : (first : ℕ) (o : Option ℕ) (number half cell : ℕ) → slow_at first o ≡ Fast number half cell → ⊥
slow_not_fast first (Some c) number half cell e = cc
slow_not_fast first None number half cell e = cc

fast_number : (j : ℕ) (o c : Option ℕ) (number half cell : ℕ) → fast_at j o c ≡ Fast number half cell → j ≡ number
fast_number j (Some h) (Some c) number half cell e = cc
fast_number j (Some h) None number half cell e = absurd (let z : ⊥ = cc in z)
fast_number j None c number half cell e = absurd (let z : ⊥ = cc in z)

half_number : (j : ℕ) (sizes : List ℕ) (zs : List ℤ) (number half cell : ℕ) → half_place j sizes zs ≡ Fast number half cell → j ≡ number
half_number j [] zs number half cell e = absurd (let z : ⊥ = cc in z)
half_number j (n ∷ sizes) [] number half cell e = absurd (let z : ⊥ = cc in z)
half_number j (n ∷ sizes) (z ∷ zs) number half cell e = fast_number j (within z n) (cell_in sizes zs) number half cell e

-- an element of fast memory is one of a fast memref
place_fast : (home : Option Home) (sizes : List ℕ) (zs : List ℤ) (number half cell : ℕ) → place_at home sizes zs ≡ Fast number half cell → home ≡ Some (FastMemref number)
place_fast (Some (SlowMemref j first)) sizes zs number half cell e = absurd (slow_not_fast first (cell_in sizes zs) number half cell e)
place_fast (Some (FastMemref j)) sizes zs number half cell e = ap (λ k. Some (FastMemref k)) (half_number j sizes zs number half cell e)
place_fast (Some (TagMemref first)) sizes zs number half cell e = absurd (let z : ⊥ = cc in z)
place_fast None sizes zs number half cell e = absurd (let z : ⊥ = cc in z)

-- a tag is an element of an allocation of tags
pub record IsTag (home : Option Home) (size tag : ℕ) : Type 0 where
  pub first : ℕ
  pub is : home ≡ Some (TagMemref first)
  pub low : first ≤ tag
  pub high : tag < first + size

pub tag_is : (home : Option Home) (sizes : List ℕ) (zs : List ℤ) (tag : ℕ) → tag_at home (cell_in sizes zs) ≡ Some tag → IsTag home (product sizes) tag
tag_is home sizes zs tag e = by home (cell_in sizes zs) refl e
  where
    by : (home : Option Home) (o : Option ℕ) → cell_in sizes zs ≡ o → tag_at home o ≡ Some tag → IsTag home (product sizes) tag
    by (Some (TagMemref first)) (Some c) q e =
        let k : first + c ≡ tag = cc in
        let l = cell_below sizes zs c q in
        record { first = first; is = refl; low = omega (arith, k); high = omega (arith, k, l) }
    by (Some (TagMemref first)) None q e = absurd (let z : ⊥ = cc in z)
    by (Some (SlowMemref number first)) o q e = absurd (let z : ⊥ = cc in z)
    by (Some (FastMemref number)) o q e = absurd (let z : ⊥ = cc in z)
    by None o q e = absurd (let z : ⊥ = cc in z)

-- ---- counts and chunks

pub record LayoutFits (l : Layout) : Type 0 where
  pub some : 1 ≤ l.count
  pub some_chunk : 1 ≤ l.chunk
  pub strided : l.chunk ≤ l.stride

known_is : (o : Option ℤ) (v : ℕ) → o ≡ Some (pos v) → gap (number o) ≡ v
known_is o v e = ap (λ o. gap (number o)) e

pub layout_fits : (e : Env) (n : Name) (stride : Option (Name × Name)) → IsCount (e.known n) → SafeChunks e stride → LayoutFits (layout_of e n stride)
layout_fits e n None c s = let k = known_is (e.known n) c.value c.is in let l = c.least in record { some = omega (arith, k, l); some_chunk = omega (arith, k, l); strided = omega arith }
layout_fits e n (Some two) c s =
    let k = known_is (e.known n) c.value c.is in
    let a = known_is (e.known two.0) s.stride s.stride_is in
    let b = known_is (e.known two.1) s.chunk s.chunk_is in
    record { some = omega (arith, k, c.least); some_chunk = omega (arith, b, s.least); strided = omega (arith, a, b, s.within) }

-- each place passes a test that all pass
all_pass : (p : ℕ → Bool) (f : ℕ → ℕ) (a n : ℕ) → list_all p (map f (range_with_len a n)) ≡ true → (e : ℕ) → e < n → p (f (a + e)) ≡ true
all_pass p f a zero h e lt = absurd (omega (arith, lt))
all_pass p f a (suc n) h zero lt = ap (λ k. p (f k)) (plus a) ∙ (and_parts (p (f a)) (list_all p (map f (range_with_len (a + 1) n))) h).0
  where
    plus : (a : ℕ) → a + 0 ≡ a
    plus a = omega arith
all_pass p f a (suc n) h (suc e) lt = ap (λ k. p (f k)) (plus a e) ∙ all_pass p f (a + 1) n (and_parts (p (f a)) (list_all p (map f (range_with_len (a + 1) n))) h).1 e (omega (arith, lt))
  where
    plus : (a e : ℕ) → a + suc e ≡ a + 1 + e
    plus a e = omega arith

-- ---- a start

-- an end of a transfer in its memref
pub record EndFits (slow : ℕ) (rooms : Rooms) (home : Option Home) (ty : MemrefType) : Type 0 where
  pub slow_end : (j first : ℕ) → home ≡ Some (SlowMemref j first) → first + product ty.sizes ≤ slow
  pub fast_end : (k : ℕ) → home ≡ Some (FastMemref k) → rooms k ≡ Some (half_cells ty.sizes)

module _ (slow : ℕ) (rooms : Rooms) (tag_home : Option Home) (tags : ℕ) (P : Action → Type 0) (fault : (k : FaultKind) → P (Faults k)) (start : (t : Transfer) → FitsTransfer slow rooms t → IsTag tag_home tags t.tag → P (Starts t)) where
  started_is : (t : Transfer) (end cells : ℕ) → end ≤ slow → rooms t.fast ≡ Some cells → 1 ≤ t.count → 1 ≤ t.chunk → t.chunk ≤ t.stride → IsTag tag_home tags t.tag → P (started t end cells)
  started_is t end cells low room some chunk strided tag = by (ends_by t end) (has_shape t cells) refl refl
    where
      fits : ends_by t end ≡ true → has_shape t cells ≡ true → FitsTransfer slow rooms t
      fits p q = record {
        cells = cells;
        allocated = room;
        inside = leb-true (t.offset + t.count) cells (and_parts (nat_le (t.offset + t.count) cells) (nat_eq (t.count % t.chunk) 0) q).0;
        some_element = some;
        some_chunk = chunk;
        strided = strided;
        within = λ e lt. let k = ltb-true (slow_place t (0 + e)) end (all_pass (λ place. nat_lt place end) (slow_place t) 0 t.count p e lt) in
            let z : 0 + e ≡ e = omega arith in let m : slow_place t (0 + e) ≡ slow_place t e = ap (slow_place t) z in omega (arith, k, m, low);
      }

      by : (b c : Bool) → ends_by t end ≡ b → has_shape t cells ≡ c → P (if b then (if c then Starts t else Faults Shape) else Faults Bounds)
      by true true p q = start t (fits p q) tag
      by true false p q = fault Shape
      by false c p q = fault Bounds

  module _ (layout : Layout) (fits : LayoutFits layout) where
    transfer_is : (incoming : Bool) (memref first : ℕ) (slow_ty fast_ty : MemrefType) (a b : Place) (tag : Option ℕ) → first + product slow_ty.sizes ≤ slow
        → ((number half cell : ℕ) → b ≡ Fast number half cell → rooms number ≡ Some (half_cells fast_ty.sizes)) → ((g : ℕ) → tag ≡ Some g → IsTag tag_home tags g)
        → P (transfer_of incoming memref first slow_ty fast_ty layout a b tag)
    transfer_is incoming memref first slow_ty fast_ty (Slow base) (Fast number half cell) (Some g) low room tag = started_is _ (first + product slow_ty.sizes) (half_cells fast_ty.sizes) low (room number half cell refl) fits.some fits.some_chunk fits.strided (tag g refl)
    transfer_is incoming memref first slow_ty fast_ty (Slow base) (Fast number half cell) None low room tag = fault Bounds
    transfer_is incoming memref first slow_ty fast_ty (Slow base) (Slow b) t low room tag = fault Bounds
    transfer_is incoming memref first slow_ty fast_ty (Slow base) Outside t low room tag = fault Bounds
    transfer_is incoming memref first slow_ty fast_ty (Fast n h c) b t low room tag = fault Bounds
    transfer_is incoming memref first slow_ty fast_ty Outside b t low room tag = fault Bounds

    between_is : (a b : Option Home) (a_ty b_ty : MemrefType) (za zb : List ℤ) (tag : Option ℕ) → EndFits slow rooms a a_ty → EndFits slow rooms b b_ty → ((g : ℕ) → tag ≡ Some g → IsTag tag_home tags g)
        → P (start_between a b (place_at a a_ty.sizes za) (place_at b b_ty.sizes zb) a_ty b_ty layout tag)
    between_is (Some (SlowMemref j first)) b a_ty b_ty za zb tag fa fb ft =
        transfer_is true j first a_ty b_ty _ (place_at b b_ty.sizes zb) tag (fa.slow_end j first refl) (λ number half cell q. fb.fast_end number (place_fast b b_ty.sizes zb number half cell q)) ft
    between_is (Some (FastMemref k)) (Some (SlowMemref j first)) a_ty b_ty za zb tag fa fb ft =
        transfer_is false j first b_ty a_ty _ (place_at (Some (FastMemref k)) a_ty.sizes za) tag (fb.slow_end j first refl) (λ number half cell q. fa.fast_end number (place_fast (Some (FastMemref k)) a_ty.sizes za number half cell q)) ft
    between_is (Some (FastMemref k)) (Some (FastMemref l)) a_ty b_ty za zb tag fa fb ft = fault Bounds
    between_is (Some (FastMemref k)) (Some (TagMemref l)) a_ty b_ty za zb tag fa fb ft = fault Bounds
    between_is (Some (FastMemref k)) None a_ty b_ty za zb tag fa fb ft = fault Bounds
    between_is (Some (TagMemref k)) (Some (SlowMemref j first)) a_ty b_ty za zb tag fa fb ft = transfer_is false j first b_ty a_ty _ Outside tag (fb.slow_end j first refl) (λ number half cell q. absurd (let z : ⊥ = cc in z)) ft
    between_is (Some (TagMemref k)) (Some (FastMemref l)) a_ty b_ty za zb tag fa fb ft = fault Bounds
    between_is (Some (TagMemref k)) (Some (TagMemref l)) a_ty b_ty za zb tag fa fb ft = fault Bounds
    between_is (Some (TagMemref k)) None a_ty b_ty za zb tag fa fb ft = fault Bounds
    between_is None (Some (SlowMemref j first)) a_ty b_ty za zb tag fa fb ft = transfer_is false j first b_ty a_ty _ Outside tag (fb.slow_end j first refl) (λ number half cell q. absurd (let z : ⊥ = cc in z)) ft
    between_is None (Some (FastMemref l)) a_ty b_ty za zb tag fa fb ft = fault Bounds
    between_is None (Some (TagMemref l)) a_ty b_ty za zb tag fa fb ft = fault Bounds
    between_is None None a_ty b_ty za zb tag fa fb ft = fault Bounds

    pub start_is : (e : Env) (a : Name) (a_at : Access) (b : Name) (b_at : Access) (t : Name) (t_at : Access) (a_ty b_ty t_ty : MemrefType) → e.home t ≡ tag_home → product t_ty.sizes ≡ tags → EndFits slow rooms (e.home a) a_ty → EndFits slow rooms (e.home b) b_ty
        → P (start_of e a a_at b b_at t t_at layout (a_ty ∷ b_ty ∷ t_ty ∷ []))
    unfolding place_of tag_of
    start_is e a a_at b b_at t t_at a_ty b_ty t_ty th ts fa fb =
        between_is (e.home a) (e.home b) a_ty b_ty (results_of e a_at) (results_of e b_at) (tag_at (e.home t) (cell_in t_ty.sizes (results_of e t_at))) fa fb
        (λ g q. subst (λ (s : Option Home × ℕ). IsTag s.0 s.1 g) (λ i. (th i, ts i)) (tag_is (e.home t) t_ty.sizes (results_of e t_at) g q))
