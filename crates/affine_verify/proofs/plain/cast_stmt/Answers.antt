use Rattle.std.proofs.Common.{refl}
use Rattle.affine_ast.specs.Nest.{Cast}
use Rattle.affine_verify.proofs.PlainlyLaws.{not_true, plainly_defined}
use Rattle.affine_verify.proofs.plain.cast_stmt.Goals as goal

pub returns : goal.returns
returns c = λ rest.
    plainly_defined c.defined.result c.args.line (Cast c.args.into.now c.args.kind c.args.value.now c.args.from c.args.to) rest c.args.into.now _ c.args.scoped.now c.defined.new.scoped c.rule_of_cast-rule.result (c.rule_of_cast-rule.ensures rest) c.defined.ensures (refl) (λ h. not_true _ h)
