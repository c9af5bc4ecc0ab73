use Rattle.text_limits.proofs.Lined.{rounds_are_counted}
use Rattle.text_limits.proofs.rounds_are_counted.Goals as goal

pub returns : goal.returns
returns c = rounds_are_counted
