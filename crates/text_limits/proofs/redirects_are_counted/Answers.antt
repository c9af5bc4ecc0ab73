use Rattle.text_limits.proofs.Lessened.{redirects_are_counted}
use Rattle.text_limits.proofs.redirects_are_counted.Goals as goal

pub returns : goal.returns
returns c = redirects_are_counted
