use Rattle.std.proofs.Common.{◌≡◌, drop}
use Rattle.affine_expr.specs.Linear.{scale_coefs, after}
use Rattle.affine_expr.proofs.linear.scale_coefs.Given as goal

abbrev pub invariant-loop-x : goal.invariant-loop-x
invariant-loop-x l = scale_coefs l.factor l.xs ≡ after l.coefs.items (scale_coefs l.factor (drop l.x-index l.xs))
