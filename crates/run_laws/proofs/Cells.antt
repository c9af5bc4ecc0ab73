-- The cells of the slow memory, each in the range of its width, and the memrefs that lie in it.
use Rattle.std.proofs.Common.{◌≡◌, ℕ, ◌+◌, ◌*◌, ◌≤◌, ◌<◌, ℤ, pos, negsuc, Bool, true, false, List, [], ◌∷◌, length, refl, sym, ap, ◌∙◌, subst, arith, length-set}
use Rattle.std.specs.Prelude.{nat_lt, nat_eq, Option, Some, None, slice_index_or, slice_set, if◌then◌else◌}
use Rattle.std.proofs.lemmas.Grind.{get_or-set_at}
use Rattle.std.proofs.lemmas.List.{get_or-set_other}
use Rattle.int_ops.specs.Wrapped.{InRange}
use Rattle.affine_ast.specs.declared.types.MemrefType.{MemrefType}
use Rattle.affine_ast.specs.Sizes.{element_bits, product}
use Rattle.direct_meaning.specs.Action.{Home, SlowMemref, FastMemref, TagMemref, Place, Slow, Fast, Outside}
use Rattle.direct_meaning.specs.Static.{within, row_major, cell_in, slow_at, place_at}
use Rattle.valid_laws.proofs.Scoped.{SameType}

-- as many cells as widths, each in the range of its width
pub record CellsFit (widths : List ℕ) (slow : List ℤ) : Type 0 where
  pub long : length slow ≡ length widths
  pub fit : (k : ℕ) → k < length widths → InRange (slice_index_or widths k 0) (slice_index_or slow k (pos 0))

-- ---- the number of an element is below the product of the sizes

pub within_below : (z : ℤ) (n k : ℕ) → within z n ≡ Some k → k < n
within_below (pos j) n k h = by (nat_lt j n) refl h
  where
    by : (t : Bool) → nat_lt j n ≡ t → (if t then Some j else None) ≡ Some k → k < n
    by true t h = let e : j ≡ k = cc in grind (arith, t, e)
    by false t h = absurd (let y : ⊥ = cc in y)
within_below (negsuc j) n k h = absurd (let y : ⊥ = cc in y)

row_below : (o r : Option ℕ) (n m c : ℕ) → ((k : ℕ) → o ≡ Some k → k < n) → ((k : ℕ) → r ≡ Some k → k < m) → row_major o m r ≡ Some c → c < n * m
row_below None r n m c f g h = absurd (let y : ⊥ = cc in y)
row_below (Some k) None n m c f g h = absurd (let y : ⊥ = cc in y)
row_below (Some k) (Some j) n m c f g h =
    let e : k * m + j ≡ c = cc in
    subst (λ c. c < n * m) e (in_row k j n m (f k refl) (g j refl))
  where
    in_row : (k j n m : ℕ) → k < n → j < m → k * m + j < n * m
    in_row k j n m p q = grind (arith, p, q)

pub cell_below : (ns : List ℕ) (zs : List ℤ) (c : ℕ) → cell_in ns zs ≡ Some c → c < product ns
cell_below [] [] c h = let e : 0 ≡ c = cc in omega (arith, e)
cell_below (n ∷ ns) (z ∷ zs) c h = row_below (within z n) (cell_in ns zs) n (product ns) c (λ k e. within_below z n k e) (λ k e. cell_below ns zs k e) h
cell_below [] (z ∷ zs) c h = absurd (let y : ⊥ = cc in y)
cell_below (n ∷ ns) [] c h = absurd (let y : ⊥ = cc in y)

-- ---- memrefs in the slow memory

-- a memref's elements lie among the places from `first` on, and these have its element's width
pub record LiesAt (widths : List ℕ) (first : ℕ) (ty : MemrefType) : Type 0 where
  pub places : first + product ty.sizes ≤ length widths
  pub cells : (c : ℕ) → c < product ty.sizes → slice_index_or widths (first + c) 0 ≡ element_bits ty.element

abbrev pub LiesIn : List ℕ → Option Home → MemrefType → Type 0
LiesIn widths None ty = ⊥
LiesIn widths (Some (SlowMemref number first)) ty = LiesAt widths first ty
LiesIn widths (Some (FastMemref number)) ty = ⊥
LiesIn widths (Some (TagMemref first)) ty = ⊥

pub lies_along : (widths : List ℕ) (home : Option Home) (a b : MemrefType) → SameType a b → LiesIn widths home a → LiesIn widths home b
lies_along widths None a b same h = absurd h
lies_along widths (Some (SlowMemref number first)) a b same h = record {
  places = subst (λ ns. first + product ns ≤ length widths) same.sizes h.places;
  cells = λ c less. h.cells c (subst (λ ns. c < product ns) (sym same.sizes) less) ∙ same.bits;
}
lies_along widths (Some (FastMemref number)) a b same h = absurd h
lies_along widths (Some (TagMemref first)) a b same h = absurd h

-- a place of that width in the slow memory, or one outside
abbrev pub PlaceFits : List ℕ → ℕ → Place → Type 0
PlaceFits widths bits (Slow place) = (place < length widths) × (slice_index_or widths place 0 ≡ bits)
PlaceFits widths bits (Fast number half cell) = ⊥
PlaceFits widths bits Outside = Unit {0}

slow_fits : (widths : List ℕ) (first : ℕ) (ty : MemrefType) (o : Option ℕ) → LiesAt widths first ty → ((c : ℕ) → o ≡ Some c → c < product ty.sizes) → PlaceFits widths (element_bits ty.element) (slow_at first o)
slow_fits widths first ty None h f = tt
slow_fits widths first ty (Some c) h f = let less = f c refl in (omega (arith, h.places, less), h.cells c less)

pub place_fits : (widths : List ℕ) (home : Option Home) (ty : MemrefType) (zs : List ℤ) → LiesIn widths home ty → PlaceFits widths (element_bits ty.element) (place_at home ty.sizes zs)
place_fits widths None ty zs h = absurd h
place_fits widths (Some (SlowMemref number first)) ty zs h = slow_fits widths first ty (cell_in ty.sizes zs) h (λ c e. cell_below ty.sizes zs c e)
place_fits widths (Some (FastMemref number)) ty zs h = absurd h
place_fits widths (Some (TagMemref first)) ty zs h = absurd h

-- ---- a cell's new value

pub by_places : {A : Type 0} (a b : ℕ) → (a ≡ b → A) → ((a ≡ b → ⊥) → A) → A
by_places {A = A} a b f g = by (nat_eq a b) refl
  where
    by : (t : Bool) → nat_eq a b ≡ t → A
    by true t = f (grind (arith, t))
    by false t = g (λ e. grind (arith, t, e))

pub cells_set : (widths : List ℕ) (slow : List ℤ) (place bits : ℕ) (z : ℤ) → CellsFit widths slow → place < length widths → slice_index_or widths place 0 ≡ bits → InRange bits z → CellsFit widths (slice_set slow place z)
cells_set widths slow place bits z h less e r = record {
  long = length-set slow place z ∙ h.long;
  fit = λ k below. by_places place k
      (λ same. subst (λ x. x) (λ i. InRange ((sym e ∙ ap (λ n. slice_index_or widths n 0) same) i) (sym (get_or-set_at slow place k z (pos 0) (sym same) (omega (arith, h.long, less))) i)) r)
      (λ other. subst (InRange (slice_index_or widths k 0)) (sym (get_or-set_other slow place k z (pos 0) (λ q. other (sym q)))) (h.fit k below));
}
