use Rattle.std.proofs.Common.{◌*ℤ◌, FitsSigned}
use Rattle.std.proofs.lemmas.Int.{to_z-of_z}
use Rattle.std.specs.Int.{w128}
use Rattle.affine_expr.proofs.Guards.{two_inside, two_is, product_fits}
use Rattle.affine_expr.proofs.eval.product.Goals as goal

pub returns : goal.returns
returns c =
    let f : FitsSigned w128 c.args.left = c.ranges.left in
    let g : FitsSigned w128 c.args.right = c.ranges.right in
    let p = product_fits c.args.left c.args.right c.requires in
    rw (to_z-of_z w128 c.args.left f, to_z-of_z w128 c.args.right g, to_z-of_z w128 (c.args.left *ℤ c.args.right) p)
    (two_is (λ u v. u *ℤ v) c.args.left c.args.right (two_inside (λ u v. u *ℤ v) c.args.left c.args.right c.requires))
