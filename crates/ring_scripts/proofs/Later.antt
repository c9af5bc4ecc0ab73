-- The box that is moved with its turn begins now where the box begins then.
use Rattle.std.proofs.Common.{◌≡◌, ℕ, ℤ, pos, ◌+ℤ◌, ◌*ℤ◌, List, [], ◌∷◌, map, refl, sym, ap, ◌∙◌, arith, Bool, true, false}
use Rattle.std.specs.Prelude.{Some, if◌then◌else◌}
use Rattle.std.proofs.lemmas.Int.{ints}
use Rattle.num_row.proofs.Ring.{Var, ◌⊕◌, ◌⊗◌, ring}
use Rattle.affine_ast.specs.declared.name.Name.{Name}
use Rattle.affine_ast.specs.Names.{same_name}
use Rattle.affine_ast.proofs.Names.{same_name-eq}
use Rattle.direct_meaning.specs.Static.{Env, number}
use Rattle.placement_texts.specs.Own.{OwnNames}
use Rattle.placement_texts.specs.Regions.{OwnDims, form_number, place_number}
use Rattle.placement_texts.specs.Template.{Dimension, clamp, term_names}
use Rattle.ring_plans.specs.Rings.{coefficient_of, dims_later}
use Rattle.ring_scripts.specs.Starts.{NoTerm, IsOnce, AreOnce, IsLater, BoxIsLater}

module _ (own : Name → Bool) (v : Name) (z t : ℤ) (e g : Env) (later : IsLater own v z t e g) where
  -- an offset that is more
  more_offset : (ts : List (Name × ℤ)) (o x : ℤ) → form_number g ts (o +ℤ x) ≡ form_number g ts o +ℤ x
  more_offset [] o x = refl
  more_offset (u ∷ ts) o x =
      let y = number (g.known u.0) *ℤ u.1 in
      let f = more_offset ts o x in
      omega (arith, ints, f)

  -- where the value is in no term the sums are the same
  same_form : (ts : List (Name × ℤ)) (o : ℤ) → OwnNames own (term_names ts) → NoTerm v ts → form_number g ts o ≡ form_number e ts o
  same_form [] o h k = refl
  same_form (u ∷ ts) o h k = λ i. number (later.same u.0 h.0 k.0 i) *ℤ u.1 +ℤ same_form ts o h.1 k.1 i

  later_form : (ts : List (Name × ℤ)) (o : ℤ) → OwnNames own (term_names ts) → IsOnce v ts → form_number g ts (o +ℤ coefficient_of v ts *ℤ z) ≡ form_number e ts o
  later_form [] o h k = let x : pos 0 *ℤ z ≡ pos 0 = ring (Var (pos 0) ⊗ Var z) (Var (pos 0)) (omega arith) in omega (arith, ints, x)
  later_form (u ∷ ts) o h k = by (later_form ts o h.1 k.1) (same_name v u.0) refl
    where
      by : form_number g ts (o +ℤ coefficient_of v ts *ℤ z) ≡ form_number e ts o → (c : Bool) → same_name v u.0 ≡ c → number (g.known u.0) *ℤ u.1 +ℤ form_number g ts (o +ℤ (if c then u.1 else coefficient_of v ts) *ℤ z) ≡ number (e.known u.0) *ℤ u.1 +ℤ form_number e ts o
      by more true c =
          let is = same_name-eq v u.0 c in
          let now : number (g.known u.0) ≡ t = ap (λ n. number (g.known n)) (sym is) ∙ ap number later.now in
          let then_is : number (e.known u.0) ≡ t +ℤ z = ap (λ n. number (e.known n)) (sym is) ∙ ap number later.then_is in
          let f = more_offset ts o (u.1 *ℤ z) in
          let same = same_form ts o h.1 (k.0 c) in
          let x : (t +ℤ z) *ℤ u.1 ≡ t *ℤ u.1 +ℤ u.1 *ℤ z = ring ((Var t ⊕ Var z) ⊗ Var u.1) ((Var t ⊗ Var u.1) ⊕ (Var u.1 ⊗ Var z)) (omega arith) in
          ap (λ w. w *ℤ u.1 +ℤ form_number g ts (o +ℤ u.1 *ℤ z)) now
          ∙ (let goal : t *ℤ u.1 +ℤ form_number g ts (o +ℤ u.1 *ℤ z) ≡ (t +ℤ z) *ℤ u.1 +ℤ form_number e ts o = omega (arith, ints, f, same, x) in goal)
          ∙ ap (λ w. w *ℤ u.1 +ℤ form_number e ts o) (sym then_is)
      by more false c = λ i. number (later.same u.0 h.0 c i) *ℤ u.1 +ℤ more i

  box_later : (ds : List Dimension) → OwnDims own ds → AreOnce v ds → map (place_number g) (dims_later v z ds) ≡ map (place_number e) ds
  box_later [] h k = refl
  box_later (d ∷ ds) h k = λ i. (ap (λ x. if d.clamped then clamp d x else x) (later_form d.terms d.offset h.0 k.0)) i ∷ box_later ds h.1 k.1 i

pub box_is_later : BoxIsLater
box_is_later own v z t e g ds later h k = box_later own v z t e g later ds h k
