use Rattle.std.proofs.Common.{rules, to_z, of_z}
use Rattle.std.specs.Int.{w128}
use Rattle.affine_expr.specs.Forms.{LinearForm}
use Rattle.affine_expr.specs.Linear.{linear_of}
use Rattle.affine_expr.proofs.Meaning.{linear_means, linear_shaped}
use Rattle.affine_expr.proofs.expr.Expr.linear.Goals as goal

pub returns-clause-shaped : goal.returns-clause-shaped
unfolding linear_of
returns-clause-shaped c = linear_shaped c.args.dims c.args.syms c.args.self.now _ (search rules)

pub returns-clause-means : goal.returns-clause-means
unfolding linear_of
returns-clause-means c =
    let f : LinearForm = record { coefs = c.coefs.inside.coefs.items; constant = to_z w128 (of_z w128 c.coefs.inside.constant); locals = c.formed.new.locals.items } in
    linear_means c.args.dims c.args.syms c.args.self.now f (search rules)
