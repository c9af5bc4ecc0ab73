-- The box of a placement over a region is the region's, where the outer variables stand for these numbers.
use Rattle.std.proofs.Common.{◌≡◌, ℕ, zero, suc, ◌+◌, ◌≤◌, ◌<◌, ℤ, pos, negsuc, ◌+ℤ◌, ◌-ℤ◌, ◌*ℤ◌, ◌≤ℤ◌, ◌<ℤ◌, List, [], ◌∷◌, refl, sym, ap, ◌∙◌, subst, arith, Bool, true, false}
use Rattle.std.specs.Prelude.{Option, Some, None, if◌then◌else◌, slice_index_or}
use Rattle.std.specs.Int.{int_min, int_max}
use Rattle.std.specs.Ordering.{int_eq}
use Rattle.std.proofs.lemmas.Bool.Decides.{Decides-int_eq}
use Rattle.std.proofs.lemmas.Int.{ints, clamps}
use Rattle.num_row.proofs.Ring.{Var, ◌⊕◌, ◌⊗◌, ring}
use Rattle.affine_expr.specs.Forms.{dot}
use Rattle.affine_ast.specs.declared.name.Name.{Name}
use Rattle.affine_ast.specs.Scope.{Scope}
use Rattle.affine_ast.specs.Sizes.{product}
use Rattle.direct_meaning.specs.Turns.{gap}
use Rattle.direct_meaning.specs.Static.{Env, number, within, cell_in}
use Rattle.nest_domain.specs.Boxes as region
use Rattle.nest_domain.specs.Boxes.{place_at, begins_at, AllWithin}
use Rattle.access_region.specs.Laws.{AllInside}
use Rattle.placement_texts.specs.Boxes.{sizes_of, InBox, HasElements}
use Rattle.placement_texts.specs.Template.{Dimension, clamp, dim_sizes}
use Rattle.placement_texts.specs.Regions.{form_number, place_number, spans_at, PlacesLie}
use Rattle.placement_texts.proofs.Cells.{within_is, row_parts}
use Rattle.placement_regions.specs.Sites.{terms_over, offset_over, dim_over, dims_over, ExtentsFit}
use Rattle.placement_regions.proofs.Known.{AreHeld}

module _ (s : Scope) (e : Env) where
  -- ---- the sum of the terms
  abbrev Here : List Name → List ℤ → Type 0
  Here ns os = AreHeld s e.known ns os

  form_is : (ns : List Name) (cs os : List ℤ) (z : ℤ) → Here ns os → form_number e (terms_over ns cs) z ≡ dot cs os +ℤ z
  form_is [] [] [] z h = zero_plus z
    where
      zero_plus : (z : ℤ) → z ≡ pos 0 +ℤ z
      zero_plus z = omega (arith, ints)
  form_is [] (c ∷ cs) [] z h = zero_plus z
    where
      zero_plus : (z : ℤ) → z ≡ pos 0 +ℤ z
      zero_plus z = omega (arith, ints)
  form_is [] cs (o ∷ os) z h = absurd h
  form_is (n ∷ ns) cs [] z h = absurd h
  form_is (n ∷ ns) [] (o ∷ os) z h = zero_plus z
    where
      zero_plus : (z : ℤ) → z ≡ pos 0 +ℤ z
      zero_plus z = omega (arith, ints)
  form_is (n ∷ ns) (c ∷ cs) (o ∷ os) z h = by (int_eq c (pos 0)) refl (form_is ns cs os z h.1)
    where
      none : (c o d z x : ℤ) → int_eq c (pos 0) ≡ true → x ≡ d +ℤ z → x ≡ (c *ℤ o +ℤ d) +ℤ z
      none c o d z x t is =
          let no : c ≡ pos 0 = (Decides-int_eq c (pos 0)).0 t in
          let product : c *ℤ o ≡ pos 0 = ap (λ y. y *ℤ o) no ∙ ring (Var (pos 0) ⊗ Var o) (Var (pos 0)) (omega arith) in
          omega (arith, ints, is, product)

      some : (c o d z x k : ℤ) → k ≡ o → x ≡ d +ℤ z → k *ℤ c +ℤ x ≡ (c *ℤ o +ℤ d) +ℤ z
      some c o d z x k same is =
          let turned : k *ℤ c ≡ c *ℤ o = ap (λ y. y *ℤ c) same ∙ ring (Var o ⊗ Var c) (Var c ⊗ Var o) (omega arith) in
          omega (arith, ints, is, turned)

      by : (t : Bool) → int_eq c (pos 0) ≡ t → form_number e (terms_over ns cs) z ≡ dot cs os +ℤ z → form_number e (if t then terms_over ns cs else (n, c) ∷ terms_over ns cs) z ≡ (c *ℤ o +ℤ dot cs os) +ℤ z
      by true t is = none c o (dot cs os) z (form_number e (terms_over ns cs) z) t is
      by false t is = some c o (dot cs os) z (form_number e (terms_over ns cs) z) (number (e.known n)) (ap number h.0.is) is

  -- ---- where the box begins
  clamped_is : (x size extent : ℤ) (long : ℕ) → pos long ≡ extent → int_max (int_min x (size -ℤ pos long)) (pos 0) ≡ int_max (pos 0) (int_min x (size -ℤ extent))
  clamped_is x size extent long is = ap (λ y. int_max (int_min x (size -ℤ y)) (pos 0)) is ∙ turned (int_min x (size -ℤ extent))
    where
      turned : (y : ℤ) → int_max y (pos 0) ≡ int_max (pos 0) y
      turned y = omega (arith, ints, clamps)

  -- where it is clamped already
  clamped_twice : (x s t : ℤ) → s ≡ t → int_max (int_min (int_max (int_min x t) (pos 0)) s) (pos 0) ≡ int_max (pos 0) (int_min x t)
  clamped_twice x s t e = omega (arith, ints, clamps, e)

  pub place_is : (ns : List Name) (os : List ℤ) → Here ns os → (d : region.Dimension) (size : ℕ) → pos (gap d.extent) ≡ d.extent → place_number e (dim_over ns d size) ≡ begins_at d size os
  unfolding place_at
  place_is ns os h d size long = by d.clamped (terms_over ns d.coefs) (λ z. form_is ns d.coefs os z h)
    where
      by : (t : Bool) (ts : List (Name × ℤ)) → ((z : ℤ) → form_number e ts z ≡ dot d.coefs os +ℤ z)
          → place_number e (record { size = size; terms = ts; offset = offset_over ts (record d { clamped = t }) size; extent = gap d.extent; clamped = t })
          ≡ (if t then int_max (pos 0) (int_min (dot d.coefs os +ℤ d.offset) (pos size -ℤ d.extent)) else dot d.coefs os +ℤ d.offset)
      by true [] is =
          clamped_twice d.offset (pos size -ℤ pos (gap d.extent)) (pos size -ℤ d.extent) (ap (λ y. pos size -ℤ y) long)
          ∙ ap (λ x. int_max (pos 0) (int_min x (pos size -ℤ d.extent))) (is d.offset)
      by true (t ∷ ts) is = ap (λ x. int_max (int_min x (pos size -ℤ pos (gap d.extent))) (pos 0)) (is d.offset) ∙ clamped_is (dot d.coefs os +ℤ d.offset) (pos size) d.extent (gap d.extent) long
      by false [] is = is d.offset
      by false (t ∷ ts) is = is d.offset

  pub gap_is : (z : ℤ) → pos 0 ≤ℤ z → pos (gap z) ≡ z
  gap_is (pos n) h = refl
  gap_is (negsuc n) h = absurd (omega (arith, ints, h))

  pub gap_some : (z : ℤ) → 1 ≤ gap z → pos (gap z) ≡ z
  gap_some (pos n) h = refl
  gap_some (negsuc n) h = absurd (omega (arith, h))

  -- ---- all dimensions
  module _ (ns : List Name) (os : List ℤ) (held : Here ns os) where
    pub places_lie : (ds : List region.Dimension) (sizes : List ℕ) → ExtentsFit (dims_over ns ds sizes) → AllWithin ds sizes os → PlacesLie e (dims_over ns ds sizes)
    places_lie [] [] x h = tt
    places_lie [] (n ∷ sizes) x h = tt
    places_lie (d ∷ ds) [] x h = tt
    places_lie (d ∷ ds) (size ∷ sizes) x h =
        let long = gap_some d.extent x.0 in
        let place = place_is ns os held d size long in
        let low = h.0 in
        let high = h.1 in
        (subst (λ z. pos 0 ≤ℤ z) (sym place) low, upper (place_number e (dim_over ns d size)) (begins_at d size os) d.extent (pos size) (gap d.extent) place long high, places_lie ds sizes x.2 h.2)
      where
        upper : (p b extent size : ℤ) (n : ℕ) → p ≡ b → pos n ≡ extent → (b +ℤ extent) ≤ℤ size → (p +ℤ pos n) ≤ℤ size
        upper p b extent size n is long h = omega (arith, ints, is, long, h)

    pub elements : (ds : List region.Dimension) (sizes : List ℕ) → ExtentsFit (dims_over ns ds sizes) → HasElements (spans_at e (dims_over ns ds sizes))
    elements [] sizes x = tt
    elements (d ∷ ds) [] x = tt
    elements (d ∷ ds) (size ∷ sizes) x = (x.0, elements ds sizes x.2)

    -- the sizes are those given, where there are as many dimensions
    pub sizes_are : (ds : List region.Dimension) (sizes : List ℕ) → AllWithin ds sizes os → sizes_of (spans_at e (dims_over ns ds sizes)) ≡ sizes
    sizes_are [] [] h = refl
    sizes_are [] (n ∷ sizes) h = absurd h
    sizes_are (d ∷ ds) [] h = absurd h
    sizes_are (d ∷ ds) (size ∷ sizes) h = ap (λ xs. size ∷ xs) (sizes_are ds sizes h.2)

    -- of subscripts within the sizes, those within the region are in the box
    inside_later : (n : ℕ) (ds : List region.Dimension) (sizes : List ℕ) (v : ℤ) (vs : List ℤ) → AllInside (suc n) ds sizes os (v ∷ vs) → AllInside n ds sizes os vs
    inside_later n [] [] v vs h = tt
    inside_later n [] (size ∷ sizes) v vs h = absurd h
    inside_later n (d ∷ ds) [] v vs h = absurd h
    inside_later n (d ∷ ds) (size ∷ sizes) v vs h = (h.0, inside_later (suc n) ds sizes v vs h.1)

    pub in_box : (ds : List region.Dimension) (sizes : List ℕ) (vs : List ℤ) (k : ℕ) → ExtentsFit (dims_over ns ds sizes) → AllWithin ds sizes os → AllInside 0 ds sizes os vs → cell_in sizes vs ≡ Some k → InBox (spans_at e (dims_over ns ds sizes)) vs
    in_box [] [] [] k x w h c = tt
    in_box [] [] (v ∷ vs) k x w h c = cc
    in_box [] (n ∷ sizes) vs k x w h c = absurd h
    in_box (d ∷ ds) [] vs k x w h c = absurd h
    in_box (d ∷ ds) (size ∷ sizes) [] k x w h c = cc
    in_box (d ∷ ds) (size ∷ sizes) (v ∷ vs) k x w h c =
        let r = row_parts (within v size) (cell_in sizes vs) (product sizes) k c in
        let i = within_is v size r.row r.row_is in
        let long = gap_some d.extent x.0 in
        let place = place_is ns os held d size long in
        let b = begins_at d size os in
        let p = place_number e (dim_over ns d size) in
        let exact : pos (gap p) ≡ p = gap_is p (subst (λ z. pos 0 ≤ℤ z) (sym place) w.0) in
        let two = h.0 (from_zero v r.row i.is) (up_to v r.row size i.is i.less) in (
          low b p v (gap p) place exact two.0,
          high b p v d.extent (gap p) (gap d.extent) place exact long two.1,
          in_box ds sizes vs r.rest x.2 w.2 (inside_later 0 ds sizes v vs h.1) r.rest_is,
        )
      where
        from_zero : (v : ℤ) (n : ℕ) → v ≡ pos n → pos 0 ≤ℤ v
        from_zero v n e = omega (arith, ints, e)

        up_to : (v : ℤ) (n size : ℕ) → v ≡ pos n → n < size → v <ℤ pos size
        up_to v n size e h = omega (arith, ints, e, h)

        low : (b p v : ℤ) (n : ℕ) → p ≡ b → pos n ≡ p → b ≤ℤ v → pos n ≤ℤ v
        low b p v n is exact h = omega (arith, ints, is, exact, h)

        high : (b p v extent : ℤ) (n m : ℕ) → p ≡ b → pos n ≡ p → pos m ≡ extent → v <ℤ (b +ℤ extent) → v <ℤ pos (n + m)
        high b p v extent n m is exact long h = omega (arith, ints, is, exact, long, h)
