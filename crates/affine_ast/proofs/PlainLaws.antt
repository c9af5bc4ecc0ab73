-- The operands and the depth of an expression, one equation for each kind.
use Rattle.std.proofs.Common.{◌≡◌, ℕ, suc, ◌+◌, ℤ, sym, ap, ◌∙◌}
use Rattle.std.specs.Prelude.{max}
use Rattle.affine_expr.specs.declared.expr.Expr.{Expr, Dim, Sym, Const, Neg, Add, Sub, Mul, FloorDiv, CeilDiv, Mod, fold-Expr, fold-roll-Expr}
use Rattle.affine_expr.specs.declared.expr.Expr.TheVariants.{rolls-Dim, rolls-Sym, rolls-Const, rolls-Neg, rolls-Add, rolls-Sub, rolls-Mul, rolls-FloorDiv, rolls-CeilDiv, rolls-Mod}
use Rattle.affine_expr.specs.declared.expr.Expr.TheOpen.{Expr-F}
use Rattle.affine_ast.specs.PlainLimits.{operands_step, operand_count, Depths, sum_depths, product_depths, unary_depths, literal_depths, depths_step, depths}

pub operand_count-Dim : (n : ℕ) → operand_count (Dim n) ≡ 1
unfolding operand_count
operand_count-Dim n = ap (fold-Expr ℕ operands_step) (sym (rolls-Dim n)) ∙ fold-roll-Expr ℕ operands_step (Expr-F.Dim n)

pub operand_count-Sym : (n : ℕ) → operand_count (Sym n) ≡ 1
unfolding operand_count
operand_count-Sym n = ap (fold-Expr ℕ operands_step) (sym (rolls-Sym n)) ∙ fold-roll-Expr ℕ operands_step (Expr-F.Sym n)

pub operand_count-Const : (z : ℤ) → operand_count (Const z) ≡ 1
unfolding operand_count
operand_count-Const z = ap (fold-Expr ℕ operands_step) (sym (rolls-Const z)) ∙ fold-roll-Expr ℕ operands_step (Expr-F.Const z)

pub operand_count-Neg : (a : Expr) → operand_count (Neg a) ≡ operand_count a
unfolding operand_count
operand_count-Neg a = ap (fold-Expr ℕ operands_step) (sym (rolls-Neg a)) ∙ fold-roll-Expr ℕ operands_step (Expr-F.Neg a)

pub operand_count-Add : (a b : Expr) → operand_count (Add a b) ≡ operand_count a + operand_count b
unfolding operand_count
operand_count-Add a b = ap (fold-Expr ℕ operands_step) (sym (rolls-Add a b)) ∙ fold-roll-Expr ℕ operands_step (Expr-F.Add a b)

pub operand_count-Sub : (a b : Expr) → operand_count (Sub a b) ≡ operand_count a + operand_count b
unfolding operand_count
operand_count-Sub a b = ap (fold-Expr ℕ operands_step) (sym (rolls-Sub a b)) ∙ fold-roll-Expr ℕ operands_step (Expr-F.Sub a b)

pub operand_count-Mul : (a b : Expr) → operand_count (Mul a b) ≡ operand_count a + operand_count b
unfolding operand_count
operand_count-Mul a b = ap (fold-Expr ℕ operands_step) (sym (rolls-Mul a b)) ∙ fold-roll-Expr ℕ operands_step (Expr-F.Mul a b)

pub operand_count-FloorDiv : (a b : Expr) → operand_count (FloorDiv a b) ≡ operand_count a + operand_count b
unfolding operand_count
operand_count-FloorDiv a b = ap (fold-Expr ℕ operands_step) (sym (rolls-FloorDiv a b)) ∙ fold-roll-Expr ℕ operands_step (Expr-F.FloorDiv a b)

pub operand_count-CeilDiv : (a b : Expr) → operand_count (CeilDiv a b) ≡ operand_count a + operand_count b
unfolding operand_count
operand_count-CeilDiv a b = ap (fold-Expr ℕ operands_step) (sym (rolls-CeilDiv a b)) ∙ fold-roll-Expr ℕ operands_step (Expr-F.CeilDiv a b)

pub operand_count-Mod : (a b : Expr) → operand_count (Mod a b) ≡ operand_count a + operand_count b
unfolding operand_count
operand_count-Mod a b = ap (fold-Expr ℕ operands_step) (sym (rolls-Mod a b)) ∙ fold-roll-Expr ℕ operands_step (Expr-F.Mod a b)

pub ruleset counts = (operand_count-Dim, operand_count-Sym, operand_count-Const, operand_count-Neg, operand_count-Add, operand_count-Sub, operand_count-Mul, operand_count-FloorDiv, operand_count-CeilDiv, operand_count-Mod)

pub depths-Dim : (n : ℕ) → depths (Dim n) ≡ unary_depths 0
unfolding depths
depths-Dim n = ap (fold-Expr Depths depths_step) (sym (rolls-Dim n)) ∙ fold-roll-Expr Depths depths_step (Expr-F.Dim n)

pub depths-Sym : (n : ℕ) → depths (Sym n) ≡ unary_depths 0
unfolding depths
depths-Sym n = ap (fold-Expr Depths depths_step) (sym (rolls-Sym n)) ∙ fold-roll-Expr Depths depths_step (Expr-F.Sym n)

pub depths-Const : (z : ℤ) → depths (Const z) ≡ literal_depths z
unfolding depths
depths-Const z = ap (fold-Expr Depths depths_step) (sym (rolls-Const z)) ∙ fold-roll-Expr Depths depths_step (Expr-F.Const z)

pub depths-Neg : (a : Expr) → depths (Neg a) ≡ unary_depths (suc (depths a).negated)
unfolding depths
depths-Neg a = ap (fold-Expr Depths depths_step) (sym (rolls-Neg a)) ∙ fold-roll-Expr Depths depths_step (Expr-F.Neg a)

pub depths-Add : (a b : Expr) → depths (Add a b) ≡ sum_depths (max (depths a).sum (depths b).product)
unfolding depths
depths-Add a b = ap (fold-Expr Depths depths_step) (sym (rolls-Add a b)) ∙ fold-roll-Expr Depths depths_step (Expr-F.Add a b)

pub depths-Sub : (a b : Expr) → depths (Sub a b) ≡ sum_depths (max (depths a).sum (depths b).product)
unfolding depths
depths-Sub a b = ap (fold-Expr Depths depths_step) (sym (rolls-Sub a b)) ∙ fold-roll-Expr Depths depths_step (Expr-F.Sub a b)

pub depths-Mul : (a b : Expr) → depths (Mul a b) ≡ product_depths (max (depths a).product (depths b).unary)
unfolding depths
depths-Mul a b = ap (fold-Expr Depths depths_step) (sym (rolls-Mul a b)) ∙ fold-roll-Expr Depths depths_step (Expr-F.Mul a b)

pub depths-FloorDiv : (a b : Expr) → depths (FloorDiv a b) ≡ product_depths (max (depths a).product (depths b).unary)
unfolding depths
depths-FloorDiv a b = ap (fold-Expr Depths depths_step) (sym (rolls-FloorDiv a b)) ∙ fold-roll-Expr Depths depths_step (Expr-F.FloorDiv a b)

pub depths-CeilDiv : (a b : Expr) → depths (CeilDiv a b) ≡ product_depths (max (depths a).product (depths b).unary)
unfolding depths
depths-CeilDiv a b = ap (fold-Expr Depths depths_step) (sym (rolls-CeilDiv a b)) ∙ fold-roll-Expr Depths depths_step (Expr-F.CeilDiv a b)

pub depths-Mod : (a b : Expr) → depths (Mod a b) ≡ product_depths (max (depths a).product (depths b).unary)
unfolding depths
depths-Mod a b = ap (fold-Expr Depths depths_step) (sym (rolls-Mod a b)) ∙ fold-roll-Expr Depths depths_step (Expr-F.Mod a b)

pub ruleset depth_laws = (depths-Dim, depths-Sym, depths-Const, depths-Neg, depths-Add, depths-Sub, depths-Mul, depths-FloorDiv, depths-CeilDiv, depths-Mod)
