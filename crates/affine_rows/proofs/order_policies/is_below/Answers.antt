use Rattle.std.proofs.Common.{sym, subst}
use Rattle.std.proofs.lemmas.Bool.{ltb-true}
use Rattle.order_machine.specs.Policies.{HoldsBelow}
use Rattle.affine_rows.proofs.order_policies.is_below.Goals as goal

pub returns-in-Hold : goal.returns-in-Hold
returns-in-Hold c = λ e. subst (HoldsBelow 2) (sym c.in-Hold.is) (ltb-true c.in-Hold.engine 2 e)
