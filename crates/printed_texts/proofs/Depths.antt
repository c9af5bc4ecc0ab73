-- The depths of expressions, one equation for each kind.
use Rattle.std.proofs.Common.{◌≡◌, ℤ, pos, true, sym, ap, ◌∙◌}
use Rattle.std.specs.Ordering.{int_eq}
use Rattle.affine_expr.specs.declared.expr.Expr.{Expr, Const, Neg, Add, Sub, Mul, FloorDiv, CeilDiv, Mod, fold-Expr, fold-roll-Expr}
use Rattle.affine_expr.specs.declared.expr.Expr.TheVariants.{rolls-Const, rolls-Neg, rolls-Add, rolls-Sub, rolls-Mul, rolls-FloorDiv, rolls-CeilDiv, rolls-Mod}
use Rattle.affine_expr.specs.declared.expr.Expr.TheOpen.{Expr-F}
pub use Rattle.affine_ast.proofs.PlainLaws.{depths-Dim, depths-Sym, depths-Const, depths-Neg, depths-Add, depths-Sub, depths-Mul, depths-FloorDiv, depths-CeilDiv, depths-Mod}
use Rattle.printed_texts.specs.Nesting.{Zeros, both_bare, zeros_step, zeros}

pub zeros-Const : (z : ℤ) → zeros (Const z) ≡ record { zero = int_eq z (pos 0); bare = true }
unfolding zeros
zeros-Const z = ap (fold-Expr Zeros zeros_step) (sym (rolls-Const z)) ∙ fold-roll-Expr Zeros zeros_step (Expr-F.Const z)

pub zeros-Neg : (a : Expr) → zeros (Neg a) ≡ zeros_step (Expr-F.Neg (zeros a))
unfolding zeros
zeros-Neg a = ap (fold-Expr Zeros zeros_step) (sym (rolls-Neg a)) ∙ fold-roll-Expr Zeros zeros_step (Expr-F.Neg a)

pub zeros-Add : (a b : Expr) → zeros (Add a b) ≡ both_bare (zeros a) (zeros b)
unfolding zeros
zeros-Add a b = ap (fold-Expr Zeros zeros_step) (sym (rolls-Add a b)) ∙ fold-roll-Expr Zeros zeros_step (Expr-F.Add a b)

pub zeros-Sub : (a b : Expr) → zeros (Sub a b) ≡ both_bare (zeros a) (zeros b)
unfolding zeros
zeros-Sub a b = ap (fold-Expr Zeros zeros_step) (sym (rolls-Sub a b)) ∙ fold-roll-Expr Zeros zeros_step (Expr-F.Sub a b)

pub zeros-Mul : (a b : Expr) → zeros (Mul a b) ≡ both_bare (zeros a) (zeros b)
unfolding zeros
zeros-Mul a b = ap (fold-Expr Zeros zeros_step) (sym (rolls-Mul a b)) ∙ fold-roll-Expr Zeros zeros_step (Expr-F.Mul a b)

pub zeros-FloorDiv : (a b : Expr) → zeros (FloorDiv a b) ≡ both_bare (zeros a) (zeros b)
unfolding zeros
zeros-FloorDiv a b = ap (fold-Expr Zeros zeros_step) (sym (rolls-FloorDiv a b)) ∙ fold-roll-Expr Zeros zeros_step (Expr-F.FloorDiv a b)

pub zeros-CeilDiv : (a b : Expr) → zeros (CeilDiv a b) ≡ both_bare (zeros a) (zeros b)
unfolding zeros
zeros-CeilDiv a b = ap (fold-Expr Zeros zeros_step) (sym (rolls-CeilDiv a b)) ∙ fold-roll-Expr Zeros zeros_step (Expr-F.CeilDiv a b)

pub zeros-Mod : (a b : Expr) → zeros (Mod a b) ≡ both_bare (zeros a) (zeros b)
unfolding zeros
zeros-Mod a b = ap (fold-Expr Zeros zeros_step) (sym (rolls-Mod a b)) ∙ fold-roll-Expr Zeros zeros_step (Expr-F.Mod a b)
