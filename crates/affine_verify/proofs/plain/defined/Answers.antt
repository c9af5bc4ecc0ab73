use Rattle.affine_rules.specs.Scoped.{scope_of}
use Rattle.affine_verify.proofs.PlainlyLaws.{absent_name}
use Rattle.affine_verify.proofs.plain.defined.Goals as goal

pub define-requires : goal.define-requires
define-requires c = absent_name (scope_of c.args.scoped.now.names.entries) c.args.name.now c.is_in.result c.is_in.ensures c.if-is_in.false
