use Rattle.std.proofs.Common.{sym, ap, subst, ◌∙◌, IfOk}
use Rattle.affine_expr.specs.Pure.{purity, purity_step}
use Rattle.affine_expr.specs.declared.expr.Expr.TheOpen.{Expr-F}
use Rattle.shape_rules.specs.Purities.{Finds}
use Rattle.shape_rules.proofs.PurityLaws.{purity-Add, purity-Sub, purity-Mul, purity-FloorDiv, purity-CeilDiv, purity-Mod}
use Rattle.shape_rules.proofs.purity.+purity.Goals as goal

pub returns-in_ok-purity-in-Add-2 : goal.returns-in_ok-purity-in-Add-2
returns-in_ok-purity-in-Add-2 t c =
    subst (λ p. IfOk c.sum.result (λ found. Finds found p))
    (sym (ap purity c.in-Add.is ∙ purity-Add c.in-Add.left c.in-Add.right ∙ (λ i. purity_step (Expr-F.Add (purity (sym c.get-in-Add.ensures i)) (purity (sym c.get-in-Add-2.ensures i))))))
    (c.sum.ensures _ _ c.in_ok-purity-in-Add.ensures c.in_ok-purity-in-Add-2.ensures)

pub returns-in_ok-purity-in-Sub-2 : goal.returns-in_ok-purity-in-Sub-2
returns-in_ok-purity-in-Sub-2 t c =
    subst (λ p. IfOk c.difference.result (λ found. Finds found p))
    (sym (ap purity c.in-Sub.is ∙ purity-Sub c.in-Sub.left c.in-Sub.right ∙ (λ i. purity_step (Expr-F.Sub (purity (sym c.get-in-Sub.ensures i)) (purity (sym c.get-in-Sub-2.ensures i))))))
    (c.difference.ensures _ _ c.in_ok-purity-in-Sub.ensures c.in_ok-purity-in-Sub-2.ensures)

pub returns-in_ok-purity-in-Mul-2 : goal.returns-in_ok-purity-in-Mul-2
returns-in_ok-purity-in-Mul-2 t c =
    subst (λ p. IfOk c.product.result (λ found. Finds found p))
    (sym (ap purity c.in-Mul.is ∙ purity-Mul c.in-Mul.left c.in-Mul.right ∙ (λ i. purity_step (Expr-F.Mul (purity (sym c.get-in-Mul.ensures i)) (purity (sym c.get-in-Mul-2.ensures i))))))
    (c.product.ensures _ _ c.in_ok-purity-in-Mul.ensures c.in_ok-purity-in-Mul-2.ensures)

pub returns-in_ok-purity-in-FloorDiv-2 : goal.returns-in_ok-purity-in-FloorDiv-2
returns-in_ok-purity-in-FloorDiv-2 t c =
    subst (λ p. IfOk c.floored.result (λ found. Finds found p))
    (sym (ap purity c.in-FloorDiv.is ∙ purity-FloorDiv c.in-FloorDiv.left c.in-FloorDiv.right ∙ (λ i. purity_step (Expr-F.FloorDiv (purity (sym c.get-in-FloorDiv.ensures i)) (purity (sym c.get-in-FloorDiv-2.ensures i))))))
    (c.floored.ensures _ _ c.in_ok-purity-in-FloorDiv.ensures c.in_ok-purity-in-FloorDiv-2.ensures)

pub returns-in_ok-purity-in-CeilDiv-2 : goal.returns-in_ok-purity-in-CeilDiv-2
returns-in_ok-purity-in-CeilDiv-2 t c =
    subst (λ p. IfOk c.ceiled.result (λ found. Finds found p))
    (sym (ap purity c.in-CeilDiv.is ∙ purity-CeilDiv c.in-CeilDiv.left c.in-CeilDiv.right ∙ (λ i. purity_step (Expr-F.CeilDiv (purity (sym c.get-in-CeilDiv.ensures i)) (purity (sym c.get-in-CeilDiv-2.ensures i))))))
    (c.ceiled.ensures _ _ c.in_ok-purity-in-CeilDiv.ensures c.in_ok-purity-in-CeilDiv-2.ensures)

pub returns-in_ok-purity-in-Mod-2 : goal.returns-in_ok-purity-in-Mod-2
returns-in_ok-purity-in-Mod-2 t c =
    subst (λ p. IfOk c.reduced.result (λ found. Finds found p))
    (sym (ap purity c.in-Mod.is ∙ purity-Mod c.in-Mod.left c.in-Mod.right ∙ (λ i. purity_step (Expr-F.Mod (purity (sym c.get-in-Mod.ensures i)) (purity (sym c.get-in-Mod-2.ensures i))))))
    (c.reduced.ensures _ _ c.in_ok-purity-in-Mod.ensures c.in_ok-purity-in-Mod-2.ensures)
