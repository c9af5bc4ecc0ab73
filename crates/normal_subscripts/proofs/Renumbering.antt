-- Expressions with their dimensions numbered otherwise, one equation for each kind.
use Rattle.std.proofs.Common.{◌≡◌, ℕ, ℤ, sym, ap, ◌∙◌}
use Rattle.affine_expr.specs.declared.expr.Expr.{Expr, Dim, Sym, Const, Neg, Add, Sub, Mul, FloorDiv, CeilDiv, Mod, roll-Expr, fold-Expr, fold-roll-Expr}
use Rattle.affine_expr.specs.declared.expr.Expr.TheVariants.{rolls-Dim, rolls-Sym, rolls-Const, rolls-Neg, rolls-Add, rolls-Sub, rolls-Mul, rolls-FloorDiv, rolls-CeilDiv, rolls-Mod}
use Rattle.affine_expr.specs.declared.expr.Expr.TheOpen.{Expr-F}
use Rattle.placement_texts.specs.Normal.{dim_to, renumbered}

module _ (f : ℕ → ℕ) where
  pub numbers-Dim : (n : ℕ) → renumbered f (Dim n) ≡ Dim (f n)
  unfolding renumbered
  numbers-Dim n = ap (fold-Expr Expr (λ x. roll-Expr (dim_to f x))) (sym (rolls-Dim n)) ∙ fold-roll-Expr Expr (λ x. roll-Expr (dim_to f x)) (Expr-F.Dim n) ∙ rolls-Dim (f n)

  pub numbers-Sym : (n : ℕ) → renumbered f (Sym n) ≡ Sym n
  unfolding renumbered
  numbers-Sym n = ap (fold-Expr Expr (λ x. roll-Expr (dim_to f x))) (sym (rolls-Sym n)) ∙ fold-roll-Expr Expr (λ x. roll-Expr (dim_to f x)) (Expr-F.Sym n) ∙ rolls-Sym n

  pub numbers-Const : (z : ℤ) → renumbered f (Const z) ≡ Const z
  unfolding renumbered
  numbers-Const z = ap (fold-Expr Expr (λ x. roll-Expr (dim_to f x))) (sym (rolls-Const z)) ∙ fold-roll-Expr Expr (λ x. roll-Expr (dim_to f x)) (Expr-F.Const z) ∙ rolls-Const z

  pub numbers-Neg : (a : Expr) → renumbered f (Neg a) ≡ Neg (renumbered f a)
  unfolding renumbered
  numbers-Neg a = ap (fold-Expr Expr (λ x. roll-Expr (dim_to f x))) (sym (rolls-Neg a)) ∙ fold-roll-Expr Expr (λ x. roll-Expr (dim_to f x)) (Expr-F.Neg a) ∙ rolls-Neg (fold-Expr Expr (λ x. roll-Expr (dim_to f x)) a)

  pub numbers-Add : (a b : Expr) → renumbered f (Add a b) ≡ Add (renumbered f a) (renumbered f b)
  unfolding renumbered
  numbers-Add a b = ap (fold-Expr Expr (λ x. roll-Expr (dim_to f x))) (sym (rolls-Add a b)) ∙ fold-roll-Expr Expr (λ x. roll-Expr (dim_to f x)) (Expr-F.Add a b) ∙ rolls-Add (fold-Expr Expr (λ x. roll-Expr (dim_to f x)) a) (fold-Expr Expr (λ x. roll-Expr (dim_to f x)) b)

  pub numbers-Sub : (a b : Expr) → renumbered f (Sub a b) ≡ Sub (renumbered f a) (renumbered f b)
  unfolding renumbered
  numbers-Sub a b = ap (fold-Expr Expr (λ x. roll-Expr (dim_to f x))) (sym (rolls-Sub a b)) ∙ fold-roll-Expr Expr (λ x. roll-Expr (dim_to f x)) (Expr-F.Sub a b) ∙ rolls-Sub (fold-Expr Expr (λ x. roll-Expr (dim_to f x)) a) (fold-Expr Expr (λ x. roll-Expr (dim_to f x)) b)

  pub numbers-Mul : (a b : Expr) → renumbered f (Mul a b) ≡ Mul (renumbered f a) (renumbered f b)
  unfolding renumbered
  numbers-Mul a b = ap (fold-Expr Expr (λ x. roll-Expr (dim_to f x))) (sym (rolls-Mul a b)) ∙ fold-roll-Expr Expr (λ x. roll-Expr (dim_to f x)) (Expr-F.Mul a b) ∙ rolls-Mul (fold-Expr Expr (λ x. roll-Expr (dim_to f x)) a) (fold-Expr Expr (λ x. roll-Expr (dim_to f x)) b)

  pub numbers-FloorDiv : (a b : Expr) → renumbered f (FloorDiv a b) ≡ FloorDiv (renumbered f a) (renumbered f b)
  unfolding renumbered
  numbers-FloorDiv a b = ap (fold-Expr Expr (λ x. roll-Expr (dim_to f x))) (sym (rolls-FloorDiv a b)) ∙ fold-roll-Expr Expr (λ x. roll-Expr (dim_to f x)) (Expr-F.FloorDiv a b) ∙ rolls-FloorDiv (fold-Expr Expr (λ x. roll-Expr (dim_to f x)) a) (fold-Expr Expr (λ x. roll-Expr (dim_to f x)) b)

  pub numbers-CeilDiv : (a b : Expr) → renumbered f (CeilDiv a b) ≡ CeilDiv (renumbered f a) (renumbered f b)
  unfolding renumbered
  numbers-CeilDiv a b = ap (fold-Expr Expr (λ x. roll-Expr (dim_to f x))) (sym (rolls-CeilDiv a b)) ∙ fold-roll-Expr Expr (λ x. roll-Expr (dim_to f x)) (Expr-F.CeilDiv a b) ∙ rolls-CeilDiv (fold-Expr Expr (λ x. roll-Expr (dim_to f x)) a) (fold-Expr Expr (λ x. roll-Expr (dim_to f x)) b)

  pub numbers-Mod : (a b : Expr) → renumbered f (Mod a b) ≡ Mod (renumbered f a) (renumbered f b)
  unfolding renumbered
  numbers-Mod a b = ap (fold-Expr Expr (λ x. roll-Expr (dim_to f x))) (sym (rolls-Mod a b)) ∙ fold-roll-Expr Expr (λ x. roll-Expr (dim_to f x)) (Expr-F.Mod a b) ∙ rolls-Mod (fold-Expr Expr (λ x. roll-Expr (dim_to f x)) a) (fold-Expr Expr (λ x. roll-Expr (dim_to f x)) b)

pub ruleset numbers = (numbers-Dim, numbers-Sym, numbers-Const, numbers-Neg, numbers-Add, numbers-Sub, numbers-Mul, numbers-FloorDiv, numbers-CeilDiv, numbers-Mod)
