use Rattle.std.proofs.Common.{refl}
use Rattle.affine_ast.specs.Nest.{Binary}
use Rattle.affine_verify.proofs.PlainlyLaws.{not_true, plainly_defined}
use Rattle.affine_verify.proofs.plain.binary_stmt.Goals as goal

pub returns : goal.returns
returns c = λ rest.
    plainly_defined c.defined.result c.args.line (Binary c.args.into.now c.args.op c.args.left.now c.args.right.now c.args.ty) rest c.args.into.now _ c.args.scoped.now c.defined.new.scoped c.rule_of_binary-rule.result (c.rule_of_binary-rule.ensures rest) c.defined.ensures (refl) (λ h. not_true _ h)
