use Rattle.std.proofs.Common.{sym, ◌∙◌}
use Rattle.affine_expr.proofs.Constants.{known_is}
use Rattle.affine_expr.proofs.linear.Leaves.factor.Goals as goal

pub returns : goal.returns
returns c = c.known.ensures ∙ sym (known_is c.args.self.now.width c.args.self.now.dims.now c.args.self.now.syms.now c.args.part.now)
