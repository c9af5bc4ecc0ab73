use Rattle.std.proofs.Common.{inr}
use Rattle.affine_driver.proofs.Refusals.{answered}
use Rattle.affine_driver.proofs.order.order_output.Goals as goal

pub returns : goal.returns
returns c = answered _ _ _ _ (λ o h. inr (c.in_ok-memory.memory, (c.in_ok-memory.ensures, h))) c.run_from.ensures
