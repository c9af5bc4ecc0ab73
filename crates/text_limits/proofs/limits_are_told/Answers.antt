use Rattle.text_limits.proofs.Tallied.{limits_are_told}
use Rattle.text_limits.proofs.limits_are_told.Goals as goal

pub returns : goal.returns
returns c = limits_are_told
