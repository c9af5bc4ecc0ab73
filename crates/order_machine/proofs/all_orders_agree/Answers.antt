use Rattle.std.proofs.Common.{subst}
use Rattle.affine_ast.specs.Validity.{IsValid}
use Rattle.order_laws.proofs.Valid.{valid_orders}
use Rattle.order_machine.proofs.all_orders_agree.Goals as goal

pub returns : goal.returns
returns c = valid_orders c.args.module.now.inner (subst IsValid c.module-module.ensures.value c.module-module.ensures.valid) c.args.image.now c.requires.fits c.args.filler c.args.capacity c.args.engines c.requires.some_engine
