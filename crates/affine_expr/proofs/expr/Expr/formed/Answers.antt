use Rattle.std.proofs.Common.{subst}
use Rattle.affine_expr.specs.Linear.{GivesForm}
use Rattle.affine_expr.proofs.Exactness.{found_exact}
use Rattle.affine_expr.proofs.expr.Expr.formed.Goals as goal

pub returns : goal.returns
returns c =
    let e = found_exact c.args.leaves.now.width c.args.leaves.now.dims.now c.args.leaves.now.syms.now c.args.self.now c.requires.pure c.requires.small in
    subst (λ w. GivesForm (w c.args.locals.now.items) c.found.new.locals.items c.found.result) e c.found.ensures
