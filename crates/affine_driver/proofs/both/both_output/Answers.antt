use Rattle.std.proofs.Common.{inr}
use Rattle.affine_driver.proofs.Refusals.{answered}
use Rattle.affine_driver.proofs.both.both_output.Goals as goal

pub returns : goal.returns
returns g c = answered _ _ _ _ (λ o h. inr (tt, (c.in_ok-meet_limits.ensures, inr (_, (c.in_ok-plan.ensures.stage, h))))) c.both_of.ensures
