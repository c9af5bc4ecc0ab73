-- Purity and leaves of an expression, one equation for each kind.
use Rattle.std.proofs.Common.{◌≡◌, ℕ, ℤ, Bool, true, sym, ap, ◌∙◌}
use Rattle.std.specs.Prelude.{◌&&◌, nat_lt}
use Rattle.affine_expr.specs.declared.expr.Expr.{Expr, Dim, Sym, Const, Neg, Add, Sub, Mul, FloorDiv, CeilDiv, Mod, fold-Expr, fold-roll-Expr}
use Rattle.affine_expr.specs.declared.expr.Expr.TheVariants.{rolls-Dim, rolls-Sym, rolls-Const, rolls-Neg, rolls-Add, rolls-Sub, rolls-Mul, rolls-FloorDiv, rolls-CeilDiv, rolls-Mod}
use Rattle.affine_expr.specs.declared.expr.Expr.TheOpen.{Expr-F}
use Rattle.affine_expr.specs.Pure.{Purity, purity_step, purity, leaves_step, has_leaves_below}

pub purity-Dim : (n : ℕ) → purity (Dim n) ≡ purity_step (Expr-F.Dim n)
purity-Dim n = ap (fold-Expr Purity purity_step) (sym (rolls-Dim n)) ∙ fold-roll-Expr Purity purity_step (Expr-F.Dim n)

pub purity-Sym : (n : ℕ) → purity (Sym n) ≡ purity_step (Expr-F.Sym n)
purity-Sym n = ap (fold-Expr Purity purity_step) (sym (rolls-Sym n)) ∙ fold-roll-Expr Purity purity_step (Expr-F.Sym n)

pub purity-Const : (z : ℤ) → purity (Const z) ≡ purity_step (Expr-F.Const z)
purity-Const z = ap (fold-Expr Purity purity_step) (sym (rolls-Const z)) ∙ fold-roll-Expr Purity purity_step (Expr-F.Const z)

pub purity-Neg : (a : Expr) → purity (Neg a) ≡ purity_step (Expr-F.Neg (purity a))
purity-Neg a = ap (fold-Expr Purity purity_step) (sym (rolls-Neg a)) ∙ fold-roll-Expr Purity purity_step (Expr-F.Neg a)

pub purity-Add : (a b : Expr) → purity (Add a b) ≡ purity_step (Expr-F.Add (purity a) (purity b))
purity-Add a b = ap (fold-Expr Purity purity_step) (sym (rolls-Add a b)) ∙ fold-roll-Expr Purity purity_step (Expr-F.Add a b)

pub purity-Sub : (a b : Expr) → purity (Sub a b) ≡ purity_step (Expr-F.Sub (purity a) (purity b))
purity-Sub a b = ap (fold-Expr Purity purity_step) (sym (rolls-Sub a b)) ∙ fold-roll-Expr Purity purity_step (Expr-F.Sub a b)

pub purity-Mul : (a b : Expr) → purity (Mul a b) ≡ purity_step (Expr-F.Mul (purity a) (purity b))
purity-Mul a b = ap (fold-Expr Purity purity_step) (sym (rolls-Mul a b)) ∙ fold-roll-Expr Purity purity_step (Expr-F.Mul a b)

pub purity-FloorDiv : (a b : Expr) → purity (FloorDiv a b) ≡ purity_step (Expr-F.FloorDiv (purity a) (purity b))
purity-FloorDiv a b = ap (fold-Expr Purity purity_step) (sym (rolls-FloorDiv a b)) ∙ fold-roll-Expr Purity purity_step (Expr-F.FloorDiv a b)

pub purity-CeilDiv : (a b : Expr) → purity (CeilDiv a b) ≡ purity_step (Expr-F.CeilDiv (purity a) (purity b))
purity-CeilDiv a b = ap (fold-Expr Purity purity_step) (sym (rolls-CeilDiv a b)) ∙ fold-roll-Expr Purity purity_step (Expr-F.CeilDiv a b)

pub purity-Mod : (a b : Expr) → purity (Mod a b) ≡ purity_step (Expr-F.Mod (purity a) (purity b))
purity-Mod a b = ap (fold-Expr Purity purity_step) (sym (rolls-Mod a b)) ∙ fold-roll-Expr Purity purity_step (Expr-F.Mod a b)

pub ruleset purities = (purity-Dim, purity-Sym, purity-Const, purity-Neg, purity-Add, purity-Sub, purity-Mul, purity-FloorDiv, purity-CeilDiv, purity-Mod)

module _ (dims syms : ℕ) where
  pub leaves-Dim : (n : ℕ) → has_leaves_below dims syms (Dim n) ≡ nat_lt n dims
  unfolding has_leaves_below
  leaves-Dim n = ap (fold-Expr Bool (leaves_step dims syms)) (sym (rolls-Dim n)) ∙ fold-roll-Expr Bool (leaves_step dims syms) (Expr-F.Dim n)

  pub leaves-Sym : (n : ℕ) → has_leaves_below dims syms (Sym n) ≡ nat_lt n syms
  unfolding has_leaves_below
  leaves-Sym n = ap (fold-Expr Bool (leaves_step dims syms)) (sym (rolls-Sym n)) ∙ fold-roll-Expr Bool (leaves_step dims syms) (Expr-F.Sym n)

  pub leaves-Const : (z : ℤ) → has_leaves_below dims syms (Const z) ≡ true
  unfolding has_leaves_below
  leaves-Const z = ap (fold-Expr Bool (leaves_step dims syms)) (sym (rolls-Const z)) ∙ fold-roll-Expr Bool (leaves_step dims syms) (Expr-F.Const z)

  pub leaves-Neg : (a : Expr) → has_leaves_below dims syms (Neg a) ≡ has_leaves_below dims syms a
  unfolding has_leaves_below
  leaves-Neg a = ap (fold-Expr Bool (leaves_step dims syms)) (sym (rolls-Neg a)) ∙ fold-roll-Expr Bool (leaves_step dims syms) (Expr-F.Neg a)

  pub leaves-Add : (a b : Expr) → has_leaves_below dims syms (Add a b) ≡ (has_leaves_below dims syms a && has_leaves_below dims syms b)
  unfolding has_leaves_below
  leaves-Add a b = ap (fold-Expr Bool (leaves_step dims syms)) (sym (rolls-Add a b)) ∙ fold-roll-Expr Bool (leaves_step dims syms) (Expr-F.Add a b)

  pub leaves-Sub : (a b : Expr) → has_leaves_below dims syms (Sub a b) ≡ (has_leaves_below dims syms a && has_leaves_below dims syms b)
  unfolding has_leaves_below
  leaves-Sub a b = ap (fold-Expr Bool (leaves_step dims syms)) (sym (rolls-Sub a b)) ∙ fold-roll-Expr Bool (leaves_step dims syms) (Expr-F.Sub a b)

  pub leaves-Mul : (a b : Expr) → has_leaves_below dims syms (Mul a b) ≡ (has_leaves_below dims syms a && has_leaves_below dims syms b)
  unfolding has_leaves_below
  leaves-Mul a b = ap (fold-Expr Bool (leaves_step dims syms)) (sym (rolls-Mul a b)) ∙ fold-roll-Expr Bool (leaves_step dims syms) (Expr-F.Mul a b)

  pub leaves-FloorDiv : (a b : Expr) → has_leaves_below dims syms (FloorDiv a b) ≡ (has_leaves_below dims syms a && has_leaves_below dims syms b)
  unfolding has_leaves_below
  leaves-FloorDiv a b = ap (fold-Expr Bool (leaves_step dims syms)) (sym (rolls-FloorDiv a b)) ∙ fold-roll-Expr Bool (leaves_step dims syms) (Expr-F.FloorDiv a b)

  pub leaves-CeilDiv : (a b : Expr) → has_leaves_below dims syms (CeilDiv a b) ≡ (has_leaves_below dims syms a && has_leaves_below dims syms b)
  unfolding has_leaves_below
  leaves-CeilDiv a b = ap (fold-Expr Bool (leaves_step dims syms)) (sym (rolls-CeilDiv a b)) ∙ fold-roll-Expr Bool (leaves_step dims syms) (Expr-F.CeilDiv a b)

  pub leaves-Mod : (a b : Expr) → has_leaves_below dims syms (Mod a b) ≡ (has_leaves_below dims syms a && has_leaves_below dims syms b)
  unfolding has_leaves_below
  leaves-Mod a b = ap (fold-Expr Bool (leaves_step dims syms)) (sym (rolls-Mod a b)) ∙ fold-roll-Expr Bool (leaves_step dims syms) (Expr-F.Mod a b)

pub ruleset leaves = (leaves-Dim, leaves-Sym, leaves-Const, leaves-Neg, leaves-Add, leaves-Sub, leaves-Mul, leaves-FloorDiv, leaves-CeilDiv, leaves-Mod)
