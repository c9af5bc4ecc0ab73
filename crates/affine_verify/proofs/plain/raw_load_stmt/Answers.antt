use Rattle.std.proofs.Common.{refl}
use Rattle.affine_ast.specs.Nest.{RawLoad}
use Rattle.affine_verify.proofs.PlainlyLaws.{not_true, plainly_defined}
use Rattle.affine_verify.proofs.plain.raw_load_stmt.Goals as goal

pub returns : goal.returns
returns c = λ rest.
    plainly_defined c.defined.result c.args.line (RawLoad c.args.into.now c.args.memref.now c.args.at.now c.args.ty.now) rest c.args.into.now _ c.args.scoped.now c.defined.new.scoped c.rule_of_raw_load-rule.result (c.rule_of_raw_load-rule.ensures rest) c.defined.ensures (refl) (λ h. not_true _ h)
