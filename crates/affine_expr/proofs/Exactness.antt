-- Of a pure expression whose numbers are small, each value that is asked for is known: what is found is the linear form.
use Rattle.std.proofs.Common.{◌≡◌, ℕ, true, ℤ, pos, neg_ℤ, ◌+ℤ◌, ◌-ℤ◌, ◌*ℤ◌, cond, List, [], Option, Some, None, Result, refl, ap, subst, ◌∙◌}
use Rattle.std.proofs.lemmas.Bool.{and_parts, not-true}
use Rattle.affine_expr.specs.declared.expr.Expr.{Expr, fold-Expr, fold-roll-Expr, ind-Expr, map-Expr, roll-Expr}
use Rattle.affine_expr.specs.declared.expr.Expr.TheOpen.{Expr-F}
use Rattle.affine_expr.specs.declared.linear.LinearFault.{LinearFault}
use Rattle.affine_expr.specs.declared.linear.Join.TheVariants.{Sum, Difference}
use Rattle.affine_expr.specs.Value.{floor_div, ceil_div, floor_mod}
use Rattle.affine_expr.specs.Spread.{both_fixed, one_fixed}
use Rattle.affine_expr.specs.Pure.{is_outside, is_small, is_positive, purity, is_pure, has_small_numbers}
use Rattle.affine_expr.specs.Guarded.{small}
use Rattle.affine_expr.specs.Forms.{Form, LocalForm}
use Rattle.affine_expr.specs.Linear.{known_one, known_two, divisor, State, Part, part_of, over_step, over, formed, joined_by, scaled_by, product_by, floor_by, ceil_by, rest_by}
use Rattle.affine_expr.proofs.Limits.{small_is}

small_at : (z : ℤ) → is_small (Some z) ≡ true → small z ≡ Some z
small_at z h = small_is z (not-true (is_outside z) h)

one_small : (f : ℤ → ℤ) (x : Option ℤ) → is_small (one_fixed f x) ≡ true → known_one f x ≡ one_fixed f x
one_small f None h = refl
one_small f (Some a) h = small_at (f a) h

two_small : (f : ℤ → ℤ → ℤ) (x y : Option ℤ) → is_small (both_fixed f x y) ≡ true → known_two f x y ≡ both_fixed f x y
two_small f None y h = refl
two_small f (Some a) None h = refl
two_small f (Some a) (Some b) h = small_at (f a b) h

divisor_same : (y : Option ℤ) → is_positive y ≡ true → divisor y ≡ y
divisor_same None h = refl
divisor_same (Some c) h = ap (λ t. cond t (Some c) None) h

both_same : (f : ℤ → ℤ → ℤ) (x y u v : Option ℤ) → x ≡ u → y ≡ v → both_fixed f x y ≡ both_fixed f u v
both_same f x y u v d e = ap (λ t. both_fixed f t y) d ∙ ap (both_fixed f u) e

-- a part with another value
abbrev part_at : (List LocalForm → Result State LinearFault) → Option ℤ → Part
part_at form k = record { known = k; form = form }

-- a part that is found is the exact one, whose value without dimensions and symbols is f
pub record IsExact (x X : Part) (f : Option ℤ) : Type 0 where
  pub same : x ≡ X
  pub known : X.known ≡ f

two_parts : (S : Part → Part → Part) (x y X Y Z : Part) → x ≡ X → y ≡ Y → S X Y ≡ Z → S x y ≡ Z
two_parts S x y X Y Z h k e = ap (λ t. S t y) h ∙ ap (S X) k ∙ e

-- two parts joined by an operation on numbers
both_exact : (o : ℤ → ℤ → ℤ) (form : Part → Part → List LocalForm → Result State LinearFault) (x y X Y : Part) (f g : Option ℤ) → IsExact x X f → IsExact y Y g → is_small (both_fixed o f g) ≡ true
    → IsExact (part_at (form x y) (known_two o x.known y.known)) (part_at (form X Y) (both_fixed o X.known Y.known)) (both_fixed o f g)
both_exact o form x y X Y f g h k s = record {
  same = two_parts (λ a b. part_at (form a b) (known_two o a.known b.known)) x y X Y _ h.same k.same
      (ap (part_at (form X Y)) (two_small o X.known Y.known (ap is_small (both_same o X.known Y.known f g h.known k.known) ∙ s)));
  known = both_same o X.known Y.known f g h.known k.known;
}

-- a division, whose divisor is positive
divided_exact : (o : ℤ → ℤ → ℤ) (form : Part → Option ℤ → List LocalForm → Result State LinearFault) (x y X Y : Part) (f g : Option ℤ) → IsExact x X f → IsExact y Y g → is_positive g ≡ true → is_small (both_fixed o f g) ≡ true
    → IsExact (part_at (form x (divisor y.known)) (known_two o x.known (divisor y.known))) (part_at (form X (divisor Y.known)) (both_fixed o X.known Y.known)) (both_fixed o f g)
divided_exact o form x y X Y f g h k p s = record {
  same = two_parts (λ a b. part_at (form a (divisor b.known)) (known_two o a.known (divisor b.known))) x y X Y _ h.same k.same
      (ap (λ d. part_at (form X (divisor Y.known)) (known_two o X.known d)) (divisor_same Y.known (ap is_positive k.known ∙ p))
      ∙ ap (part_at (form X (divisor Y.known))) (two_small o X.known Y.known (ap is_small (both_same o X.known Y.known f g h.known k.known) ∙ s)));
  known = both_same o X.known Y.known f g h.known k.known;
}

module _ (width : ℕ) (ds ss : List Form) where
  abbrev found : Expr → Part
  found = part_of width ds ss

  abbrev exact : Expr → Part
  exact = fold-Expr Part (over_step width ds ss)

  abbrev pub Agree : Expr → Type 0
  Agree e = (purity e).pure ≡ true → (purity e).small ≡ true → IsExact (found e) (exact e) (purity e).fixed

  one_layer : (y : Expr-F ((e : Expr) × Agree e)) → Agree (roll-Expr (map-Expr ((e : Expr) × Agree e) Expr (λ e. e.0) y))
  one_layer (Expr-F.Dim n) = simp fold-roll-Expr (λ p s. record { same = refl; known = refl })
  one_layer (Expr-F.Sym n) = simp fold-roll-Expr (λ p s. record { same = refl; known = refl })
  one_layer (Expr-F.Const z) = simp fold-roll-Expr (λ p s. record { same = ap (part_at _) (small_at z s); known = refl })
  one_layer (Expr-F.Neg a) = simp fold-roll-Expr (λ p s.
      let t = and_parts _ _ s in
      let h = a.1 p t.0 in
      record {
        same = ap (λ x. part_at (scaled_by (neg_ℤ (pos 1)) x) (known_one neg_ℤ x.known)) h.same
            ∙ ap (part_at (scaled_by (neg_ℤ (pos 1)) (exact a.0))) (one_small neg_ℤ (exact a.0).known (ap is_small (ap (one_fixed neg_ℤ) h.known) ∙ t.1));
        known = ap (one_fixed neg_ℤ) h.known;
      })
  one_layer (Expr-F.Add a b) = simp fold-roll-Expr (λ p s.
      let t = and_parts _ _ s in
      let q = and_parts _ _ p in
      let m = and_parts _ _ t.0 in
      both_exact (λ x y. x +ℤ y) (joined_by Sum) (found a.0) (found b.0) (exact a.0) (exact b.0) _ _ (a.1 q.0 m.0) (b.1 q.1 m.1) t.1)
  one_layer (Expr-F.Sub a b) = simp fold-roll-Expr (λ p s.
      let t = and_parts _ _ s in
      let q = and_parts _ _ p in
      let m = and_parts _ _ t.0 in
      both_exact (λ x y. x -ℤ y) (joined_by Difference) (found a.0) (found b.0) (exact a.0) (exact b.0) _ _ (a.1 q.0 m.0) (b.1 q.1 m.1) t.1)
  one_layer (Expr-F.Mul a b) = simp fold-roll-Expr (λ p s.
      let t = and_parts _ _ s in
      let r = and_parts _ _ p in
      let q = and_parts _ _ r.0 in
      let m = and_parts _ _ t.0 in
      both_exact (λ x y. x *ℤ y) (λ x y. product_by x y x.known y.known) (found a.0) (found b.0) (exact a.0) (exact b.0) _ _ (a.1 q.0 m.0) (b.1 q.1 m.1) t.1)
  one_layer (Expr-F.FloorDiv a b) = simp fold-roll-Expr (λ p s.
      let t = and_parts _ _ s in
      let r = and_parts _ _ p in
      let q = and_parts _ _ r.0 in
      let m = and_parts _ _ t.0 in
      divided_exact floor_div floor_by (found a.0) (found b.0) (exact a.0) (exact b.0) _ _ (a.1 q.0 m.0) (b.1 q.1 m.1) r.1 t.1)
  one_layer (Expr-F.CeilDiv a b) = simp fold-roll-Expr (λ p s.
      let t = and_parts _ _ s in
      let r = and_parts _ _ p in
      let q = and_parts _ _ r.0 in
      let m = and_parts _ _ t.0 in
      divided_exact ceil_div ceil_by (found a.0) (found b.0) (exact a.0) (exact b.0) _ _ (a.1 q.0 m.0) (b.1 q.1 m.1) r.1 t.1)
  one_layer (Expr-F.Mod a b) = simp fold-roll-Expr (λ p s.
      let t = and_parts _ _ s in
      let r = and_parts _ _ p in
      let q = and_parts _ _ r.0 in
      let m = and_parts _ _ t.0 in
      divided_exact floor_mod rest_by (found a.0) (found b.0) (exact a.0) (exact b.0) _ _ (a.1 q.0 m.0) (b.1 q.1 m.1) r.1 t.1)

  agree : (e : Expr) → Agree e
  agree = ind-Expr Agree (λ x y is. subst (λ z. Agree (roll-Expr z)) is (one_layer y))

  -- the form that is found of an expression is its form
  pub found_exact : (e : Expr) → is_pure e ≡ true → has_small_numbers e ≡ true → formed width ds ss e ≡ (over width ds ss e).form
  unfolding is_pure has_small_numbers over
  found_exact e p s = ap (λ (x : Part). x.form) (agree e p s).same
