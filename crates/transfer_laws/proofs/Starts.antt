-- The action of a start: a fault, or a transfer of whole chunks whose tag is an element of its memref of tags.
use Rattle.std.proofs.Common.{◌≡◌, ℕ, ◌+◌, ◌*◌, ◌%◌, ◌<◌, ℤ, pos, negsuc, subst, Bool, true, false, List, [], ◌∷◌, refl, arith}
use Rattle.std.specs.Prelude.{nat_eq, nat_le, nat_lt, Option, Some, None, if◌then◌else◌}
use Rattle.std.proofs.lemmas.Bool.{and_parts, ltb-true}
use Rattle.affine_ast.specs.declared.name.Name.{Name}
use Rattle.affine_ast.specs.declared.types.Access.{Access}
use Rattle.affine_ast.specs.declared.types.MemrefType.{MemrefType}
use Rattle.affine_ast.specs.Sizes.{product}
use Rattle.bus_model.specs.declared.step.FaultKind.{FaultKind}
use Rattle.bus_model.specs.declared.step.FaultKind.TheVariants.{Bounds, Shape}
use Rattle.bus_model.specs.declared.transfer.Transfer.{Transfer}
use Rattle.direct_meaning.specs.Transfers.{ends_by}
use Rattle.direct_meaning.specs.Action.{Home, SlowMemref, FastMemref, TagMemref, Place, Slow, Fast, Outside, Action, Starts, Faults}
use Rattle.direct_meaning.specs.Actions.{half_cells, Layout, has_shape, started, transfer_of, start_between, start_of}
use Rattle.direct_meaning.specs.Static.{Env, results_of, within, row_major, cell_in, place_of, tag_at, tag_of}

row_below : (o p : Option ℕ) (n m c : ℕ) → ((k : ℕ) → o ≡ Some k → k < n) → ((k : ℕ) → p ≡ Some k → k < m) → row_major o m p ≡ Some c → c < n * m
row_below (Some k) (Some j) n m c f g h =
    let e : k * m + j ≡ c = cc in
    subst (λ c. c < n * m) e (in_row k j n m (f k refl) (g j refl))
  where
    in_row : (k j n m : ℕ) → k < n → j < m → k * m + j < n * m
    in_row k j n m p q = grind (arith, p, q)
row_below (Some k) None n m c f g h = absurd (let z : ⊥ = cc in z)
row_below None p n m c f g h = absurd (let z : ⊥ = cc in z)

within_below : (z : ℤ) (n k : ℕ) → within z n ≡ Some k → k < n
within_below (pos j) n k h = by (nat_lt j n) refl h
  where
    by : (t : Bool) → nat_lt j n ≡ t → (if t then Some j else None) ≡ Some k → k < n
    by true t h = let e : j ≡ k = cc in let l = ltb-true j n t in omega (arith, e, l)
    by false t h = absurd (let z : ⊥ = cc in z)
within_below (negsuc j) n k h = absurd (let z : ⊥ = cc in z)

cell_below : (ns : List ℕ) (zs : List ℤ) (c : ℕ) → cell_in ns zs ≡ Some c → c < product ns
cell_below [] [] c h = let e : 0 ≡ c = cc in omega (arith, e)
cell_below (n ∷ ns) (z ∷ zs) c h = row_below (within z n) (cell_in ns zs) n (product ns) c (λ k e. within_below z n k e) (λ k e. cell_below ns zs k e) h
cell_below [] (z ∷ zs) c h = absurd (let y : ⊥ = cc in y)
cell_below (n ∷ ns) [] c h = absurd (let y : ⊥ = cc in y)

-- a tag is an element of an allocation of tags
pub record IsTag (home : Option Home) (size tag : ℕ) : Type 0 where
  pub first : ℕ
  pub is : home ≡ Some (TagMemref first)
  pub high : tag < first + size

tag_is : (home : Option Home) (sizes : List ℕ) (zs : List ℤ) (tag : ℕ) → tag_at home (cell_in sizes zs) ≡ Some tag → IsTag home (product sizes) tag
tag_is home sizes zs tag e = by home (cell_in sizes zs) refl e
  where
    by : (home : Option Home) (o : Option ℕ) → cell_in sizes zs ≡ o → tag_at home o ≡ Some tag → IsTag home (product sizes) tag
    by (Some (TagMemref first)) (Some c) q e =
        let k : first + c ≡ tag = cc in
        let l = cell_below sizes zs c q in
        record { first = first; is = refl; high = omega (arith, k, l) }
    by (Some (TagMemref first)) None q e = absurd (let z : ⊥ = cc in z)
    by (Some (SlowMemref number first)) o q e = absurd (let z : ⊥ = cc in z)
    by (Some (FastMemref number)) o q e = absurd (let z : ⊥ = cc in z)
    by None o q e = absurd (let z : ⊥ = cc in z)

module _ (tag_home : Option Home) (size : ℕ) (P : Action → Type 0) (fault : (k : FaultKind) → P (Faults k)) (start : (t : Transfer) → t.count % t.chunk ≡ 0 → IsTag tag_home size t.tag → P (Starts t)) where
  started_is : (t : Transfer) (end cells : ℕ) → IsTag tag_home size t.tag → P (started t end cells)
  started_is t end cells tag = by (ends_by t end) (has_shape t cells) refl
    where
      by : (b c : Bool) → has_shape t cells ≡ c → P (if b then (if c then Starts t else Faults Shape) else Faults Bounds)
      by true true q =
          let r = (and_parts (nat_le (t.offset + t.count) cells) (nat_eq (t.count % t.chunk) 0) q).1 in
          let whole : t.count % t.chunk ≡ 0 = grind (arith, r) in
          start t whole tag
      by true false q = fault Shape
      by false c q = fault Bounds

  transfer_is : (incoming : Bool) (memref first : ℕ) (slow_ty fast_ty : MemrefType) (layout : Layout) (a b : Place) (tag : Option ℕ) → ((g : ℕ) → tag ≡ Some g → IsTag tag_home size g) → P (transfer_of incoming memref first slow_ty fast_ty layout a b tag)
  transfer_is incoming memref first slow_ty fast_ty layout (Slow base) (Fast number half cell) (Some g) tag = started_is _ (first + product slow_ty.sizes) (half_cells fast_ty.sizes) (tag g refl)
  transfer_is incoming memref first slow_ty fast_ty layout (Slow base) (Fast number half cell) None tag = fault Bounds
  transfer_is incoming memref first slow_ty fast_ty layout (Slow base) (Slow b) t tag = fault Bounds
  transfer_is incoming memref first slow_ty fast_ty layout (Slow base) Outside t tag = fault Bounds
  transfer_is incoming memref first slow_ty fast_ty layout (Fast n h c) b t tag = fault Bounds
  transfer_is incoming memref first slow_ty fast_ty layout Outside b t tag = fault Bounds

  between_is : (a b : Option Home) (pa pb : Place) (a_ty b_ty : MemrefType) (layout : Layout) (tag : Option ℕ) → ((g : ℕ) → tag ≡ Some g → IsTag tag_home size g) → P (start_between a b pa pb a_ty b_ty layout tag)
  between_is (Some (SlowMemref j first)) b pa pb a_ty b_ty layout tag f = transfer_is true j first a_ty b_ty layout pa pb tag f
  between_is (Some (FastMemref k)) (Some (SlowMemref j first)) pa pb a_ty b_ty layout tag f = transfer_is false j first b_ty a_ty layout pb pa tag f
  between_is (Some (FastMemref k)) (Some (FastMemref l)) pa pb a_ty b_ty layout tag f = fault Bounds
  between_is (Some (FastMemref k)) (Some (TagMemref l)) pa pb a_ty b_ty layout tag f = fault Bounds
  between_is (Some (FastMemref k)) None pa pb a_ty b_ty layout tag f = fault Bounds
  between_is (Some (TagMemref k)) (Some (SlowMemref j first)) pa pb a_ty b_ty layout tag f = transfer_is false j first b_ty a_ty layout pb pa tag f
  between_is (Some (TagMemref k)) (Some (FastMemref l)) pa pb a_ty b_ty layout tag f = fault Bounds
  between_is (Some (TagMemref k)) (Some (TagMemref l)) pa pb a_ty b_ty layout tag f = fault Bounds
  between_is (Some (TagMemref k)) None pa pb a_ty b_ty layout tag f = fault Bounds
  between_is None (Some (SlowMemref j first)) pa pb a_ty b_ty layout tag f = transfer_is false j first b_ty a_ty layout pb pa tag f
  between_is None (Some (FastMemref l)) pa pb a_ty b_ty layout tag f = fault Bounds
  between_is None (Some (TagMemref l)) pa pb a_ty b_ty layout tag f = fault Bounds
  between_is None None pa pb a_ty b_ty layout tag f = fault Bounds

-- a start's action, of these types
pub start_is : (e : Env) (a : Name) (a_at : Access) (b : Name) (b_at : Access) (t : Name) (t_at : Access) (layout : Layout) (a_ty b_ty t_ty : MemrefType) (P : Action → Type 0) → ((k : FaultKind) → P (Faults k))
    → ((u : Transfer) → u.count % u.chunk ≡ 0 → IsTag (e.home t) (product t_ty.sizes) u.tag → P (Starts u)) → P (start_of e a a_at b b_at t t_at layout (a_ty ∷ b_ty ∷ t_ty ∷ []))
unfolding place_of tag_of
start_is e a a_at b b_at t t_at layout a_ty b_ty t_ty P fault start =
    between_is (e.home t) (product t_ty.sizes) P fault start (e.home a) (e.home b) (place_of e a a_at a_ty) (place_of e b b_at b_ty) a_ty b_ty layout (tag_at (e.home t) (cell_in t_ty.sizes (results_of e t_at)))
    (λ g q. tag_is (e.home t) t_ty.sizes (results_of e t_at) g q)
