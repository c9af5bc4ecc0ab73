use Rattle.std.proofs.Common.{inr}
use Rattle.affine_driver.proofs.Refusals.{answered}
use Rattle.affine_driver.proofs.plain.plain_output.Goals as goal

pub returns : goal.returns
returns c = answered _ _ _ _ (λ o h. inr (tt, (c.in_ok-meet_limits.ensures, inr (c.in_ok-memory.memory, (c.in_ok-memory.ensures, h))))) c.run_from.ensures
