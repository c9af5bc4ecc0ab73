-- The known value that is found with a form is the known value.
use Rattle.std.proofs.Common.{◌≡◌, ℕ, ℤ, List, Option, refl, ap, subst, ◌∙◌}
use Rattle.std.specs.Prelude.{◌+ℤ◌, ◌-ℤ◌, ◌*ℤ◌, neg_ℤ}
use Rattle.affine_expr.specs.declared.expr.Expr.{Expr, fold-roll-Expr, ind-Expr, map-Expr, roll-Expr}
use Rattle.affine_expr.specs.declared.expr.Expr.TheOpen.{Expr-F}
use Rattle.affine_expr.specs.Value.{floor_div, ceil_div, floor_mod}
use Rattle.affine_expr.specs.Forms.{Form}
use Rattle.affine_expr.specs.Linear.{known_one, known_two, divisor, known_value, part_of}

module _ (width : ℕ) (ds ss : List Form) where
  abbrev pub Same : Expr → Type 0
  Same e = (part_of width ds ss e).known ≡ known_value e

  both : (f : Option ℤ → Option ℤ → Option ℤ) (x y u v : Option ℤ) → x ≡ u → y ≡ v → f x y ≡ f u v
  both f x y u v h k = ap (λ t. f t y) h ∙ ap (f u) k

  one_layer : (y : Expr-F ((e : Expr) × Same e)) → Same (roll-Expr (map-Expr ((e : Expr) × Same e) Expr (λ e. e.0) y))
  one_layer (Expr-F.Dim n) = simp fold-roll-Expr refl
  one_layer (Expr-F.Sym n) = simp fold-roll-Expr refl
  one_layer (Expr-F.Const z) = simp fold-roll-Expr refl
  one_layer (Expr-F.Neg a) = simp fold-roll-Expr (ap (known_one neg_ℤ) a.1)
  one_layer (Expr-F.Add a b) = simp fold-roll-Expr (both (known_two (λ x y. x +ℤ y)) _ _ _ _ a.1 b.1)
  one_layer (Expr-F.Sub a b) = simp fold-roll-Expr (both (known_two (λ x y. x -ℤ y)) _ _ _ _ a.1 b.1)
  one_layer (Expr-F.Mul a b) = simp fold-roll-Expr (both (known_two (λ x y. x *ℤ y)) _ _ _ _ a.1 b.1)
  one_layer (Expr-F.FloorDiv a b) = simp fold-roll-Expr (both (λ x y. known_two floor_div x (divisor y)) _ _ _ _ a.1 b.1)
  one_layer (Expr-F.CeilDiv a b) = simp fold-roll-Expr (both (λ x y. known_two ceil_div x (divisor y)) _ _ _ _ a.1 b.1)
  one_layer (Expr-F.Mod a b) = simp fold-roll-Expr (both (λ x y. known_two floor_mod x (divisor y)) _ _ _ _ a.1 b.1)

  pub known_is : (e : Expr) → Same e
  known_is = ind-Expr Same (λ x y is. subst (λ z. Same (roll-Expr z)) is (one_layer y))
