use Rattle.std.proofs.Common.{◌+◌, ◌*◌, max}
use Rattle.affine_expr.specs.declared.expr.Expr.{size-Expr}
use Rattle.affine_print.proofs.expression.+expressions.Given as goal

abbrev pub decreases-put_expr : goal.decreases-put_expr
decreases-put_expr l = 3 * size-Expr l.expr.now

abbrev pub decreases-put_sum_at : goal.decreases-put_sum_at
decreases-put_sum_at l = 3 * max (size-Expr l.left.now) (size-Expr l.right.now) + 2

abbrev pub decreases-put_product_at : goal.decreases-put_product_at
decreases-put_product_at l = 3 * max (size-Expr l.left.now) (size-Expr l.right.now) + 2

abbrev pub decreases-put_sum : goal.decreases-put_sum
decreases-put_sum l = 3 * max (size-Expr l.left.now) (size-Expr l.right.now) + 1

abbrev pub decreases-put_product : goal.decreases-put_product
decreases-put_product l = 3 * max (size-Expr l.left.now) (size-Expr l.right.now) + 1

abbrev pub decreases-put_negation : goal.decreases-put_negation
decreases-put_negation l = 3 * size-Expr l.part.now + 1
