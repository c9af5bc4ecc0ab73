-- The texts of rings, by computing.
use Rattle.std.proofs.Common.{◌≡◌, ℕ, ℤ, pos, refl, sym, ap, ◌∙◌}
use Rattle.std.specs.Prelude.{◌+◌, Option, Some, None}
use Rattle.affine_expr.specs.declared.expr.Expr.{Expr, Dim, Const, Add, fold-Expr, roll-Expr, fold-roll-Expr}
use Rattle.affine_expr.specs.declared.expr.Expr.TheVariants.{rolls-Dim, rolls-Const, rolls-Add}
use Rattle.affine_expr.specs.declared.expr.Expr.TheOpen.{Expr-F}
use Rattle.affine_expr.specs.Value.{floor_div}
use Rattle.affine_ast.specs.Names.{same_name}
use Rattle.affine_ast.proofs.Nests.{nests}
use Rattle.loop_forms.specs.Sums.{number_of, number_step, sum_by, sum_of}
use Rattle.loop_forms.specs.Split.{behind, leaf_behind, split_of}
use Rattle.numbered_names.specs.Numbers.{defined}
use Rattle.ring_numbers.specs.Law.{from_later, RingsAre}

pub number_const : (z : ℤ) → number_of (Const z) ≡ Some z
unfolding number_of
number_const z = ap (fold-Expr (Option ℤ) number_step) (sym (rolls-Const z)) ∙ fold-roll-Expr (Option ℤ) number_step (Expr-F.Const z)

pub behind_const : (d s : ℕ) (z : ℤ) → behind d s (Const z) ≡ Const z
unfolding behind
behind_const d s z =
    ap (fold-Expr Expr (λ x. roll-Expr (leaf_behind d s x))) (sym (rolls-Const z))
    ∙ fold-roll-Expr Expr (λ x. roll-Expr (leaf_behind d s x)) (Expr-F.Const z) ∙ rolls-Const z

number_dim : (k : ℕ) → number_of (Dim k) ≡ None
unfolding number_of
number_dim k = ap (fold-Expr (Option ℤ) number_step) (sym (rolls-Dim k)) ∙ fold-roll-Expr (Option ℤ) number_step (Expr-F.Dim k)

number_add : (a b : Expr) → number_of (Add a b) ≡ None
unfolding number_of
number_add a b = ap (fold-Expr (Option ℤ) number_step) (sym (rolls-Add a b)) ∙ fold-roll-Expr (Option ℤ) number_step (Expr-F.Add a b)

behind_dim : (d s k : ℕ) → behind d s (Dim k) ≡ Dim (d + k)
unfolding behind
behind_dim d s k =
    ap (fold-Expr Expr (λ x. roll-Expr (leaf_behind d s x))) (sym (rolls-Dim k))
    ∙ fold-roll-Expr Expr (λ x. roll-Expr (leaf_behind d s x)) (Expr-F.Dim k) ∙ rolls-Dim (d + k)

behind_add : (d s : ℕ) (a b : Expr) → behind d s (Add a b) ≡ Add (behind d s a) (behind d s b)
unfolding behind
behind_add d s a b =
    ap (fold-Expr Expr (λ x. roll-Expr (leaf_behind d s x))) (sym (rolls-Add a b))
    ∙ fold-roll-Expr Expr (λ x. roll-Expr (leaf_behind d s x)) (Expr-F.Add a b) ∙ rolls-Add (behind d s a) (behind d s b)

pub rings : RingsAre
unfolding same_name split_of floor_div defined
rings = record {
  two = simp nests refl;
  three = simp nests refl;
  eight = simp nests refl;
  names = refl;
  numbers = refl;
  outward = simp (nests, number_const, behind_const) refl;
  outward_four = simp (nests, number_const, behind_const) refl;
  late_value =
      ap (λ e. from_later (sum_of e (Const (pos 32)))) (behind_dim 1 0 0)
      ∙ (λ j. from_later (sum_by (number_dim 1 j) (number_const (pos 32) j) (Dim 1) (Const (pos 32))));
  late_map =
      ap (λ e. from_later (sum_of e (Const (pos 32)))) (behind_add 1 0 (Dim 0) (Const (pos 3)) ∙ (λ j. Add (behind_dim 1 0 0 j) (behind_const 1 0 (pos 3) j)))
      ∙ (λ j. from_later (sum_by (number_add (Dim 1) (Const (pos 3)) j) (number_const (pos 32) j) (Add (Dim 1) (Const (pos 3))) (Const (pos 32))));
  too_far = refl;
  near = simp number_const refl;
  peak_two = refl;
  peak_three = refl;
}
