-- The value of an expression, one equation for each kind.
use Rattle.std.proofs.Common.{◌≡◌, ℕ, ℤ, pos, List, sym, ap, ◌∙◌}
use Rattle.std.specs.Prelude.{◌+ℤ◌, ◌-ℤ◌, ◌*ℤ◌, neg_ℤ, slice_index_or}
use Rattle.affine_expr.specs.declared.expr.Expr.{Expr, Dim, Sym, Const, Neg, Add, Sub, Mul, FloorDiv, CeilDiv, Mod, fold-Expr, fold-roll-Expr}
use Rattle.affine_expr.specs.declared.expr.Expr.TheVariants.{rolls-Dim, rolls-Sym, rolls-Const, rolls-Neg, rolls-Add, rolls-Sub, rolls-Mul, rolls-FloorDiv, rolls-CeilDiv, rolls-Mod}
use Rattle.affine_expr.specs.declared.expr.Expr.TheOpen.{Expr-F}
use Rattle.affine_expr.specs.Value.{floor_div, ceil_div, floor_mod, value_step, value}

module _ (ds ss : List ℤ) where
  pub value-Dim : (n : ℕ) → value ds ss (Dim n) ≡ slice_index_or ds n (pos 0)
  unfolding value
  value-Dim n = ap (fold-Expr ℤ (value_step ds ss)) (sym (rolls-Dim n)) ∙ fold-roll-Expr ℤ (value_step ds ss) (Expr-F.Dim n)

  pub value-Sym : (n : ℕ) → value ds ss (Sym n) ≡ slice_index_or ss n (pos 0)
  unfolding value
  value-Sym n = ap (fold-Expr ℤ (value_step ds ss)) (sym (rolls-Sym n)) ∙ fold-roll-Expr ℤ (value_step ds ss) (Expr-F.Sym n)

  pub value-Const : (z : ℤ) → value ds ss (Const z) ≡ z
  unfolding value
  value-Const z = ap (fold-Expr ℤ (value_step ds ss)) (sym (rolls-Const z)) ∙ fold-roll-Expr ℤ (value_step ds ss) (Expr-F.Const z)

  pub value-Neg : (a : Expr) → value ds ss (Neg a) ≡ neg_ℤ (value ds ss a)
  unfolding value
  value-Neg a = ap (fold-Expr ℤ (value_step ds ss)) (sym (rolls-Neg a)) ∙ fold-roll-Expr ℤ (value_step ds ss) (Expr-F.Neg a)

  pub value-Add : (a b : Expr) → value ds ss (Add a b) ≡ value ds ss a +ℤ value ds ss b
  unfolding value
  value-Add a b = ap (fold-Expr ℤ (value_step ds ss)) (sym (rolls-Add a b)) ∙ fold-roll-Expr ℤ (value_step ds ss) (Expr-F.Add a b)

  pub value-Sub : (a b : Expr) → value ds ss (Sub a b) ≡ value ds ss a -ℤ value ds ss b
  unfolding value
  value-Sub a b = ap (fold-Expr ℤ (value_step ds ss)) (sym (rolls-Sub a b)) ∙ fold-roll-Expr ℤ (value_step ds ss) (Expr-F.Sub a b)

  pub value-Mul : (a b : Expr) → value ds ss (Mul a b) ≡ value ds ss a *ℤ value ds ss b
  unfolding value
  value-Mul a b = ap (fold-Expr ℤ (value_step ds ss)) (sym (rolls-Mul a b)) ∙ fold-roll-Expr ℤ (value_step ds ss) (Expr-F.Mul a b)

  pub value-FloorDiv : (a b : Expr) → value ds ss (FloorDiv a b) ≡ floor_div (value ds ss a) (value ds ss b)
  unfolding value
  value-FloorDiv a b = ap (fold-Expr ℤ (value_step ds ss)) (sym (rolls-FloorDiv a b)) ∙ fold-roll-Expr ℤ (value_step ds ss) (Expr-F.FloorDiv a b)

  pub value-CeilDiv : (a b : Expr) → value ds ss (CeilDiv a b) ≡ ceil_div (value ds ss a) (value ds ss b)
  unfolding value
  value-CeilDiv a b = ap (fold-Expr ℤ (value_step ds ss)) (sym (rolls-CeilDiv a b)) ∙ fold-roll-Expr ℤ (value_step ds ss) (Expr-F.CeilDiv a b)

  pub value-Mod : (a b : Expr) → value ds ss (Mod a b) ≡ floor_mod (value ds ss a) (value ds ss b)
  unfolding value
  value-Mod a b = ap (fold-Expr ℤ (value_step ds ss)) (sym (rolls-Mod a b)) ∙ fold-roll-Expr ℤ (value_step ds ss) (Expr-F.Mod a b)

pub ruleset values = (value-Dim, value-Sym, value-Const, value-Neg, value-Add, value-Sub, value-Mul, value-FloorDiv, value-CeilDiv, value-Mod)
