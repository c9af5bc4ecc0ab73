use Rattle.text_limits.proofs.Prefixes.{limits_are_sums}
use Rattle.text_limits.proofs.limits_are_sums.Goals as goal

pub returns : goal.returns
returns c = limits_are_sums
