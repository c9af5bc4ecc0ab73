use Rattle.std.proofs.Common.{◌≡◌, drop}
use Rattle.affine_expr.specs.Linear.{join_coefs, after}
use Rattle.affine_expr.proofs.linear.join_coefs.Given as goal

abbrev pub invariant-loop-place : goal.invariant-loop-place
invariant-loop-place l = join_coefs l.way l.xs l.ys ≡ after l.coefs.items (join_coefs l.way (drop l.place l.xs) (drop l.place l.ys))
