use Rattle.text_limits.proofs.Lined.{planned_are_described}
use Rattle.text_limits.proofs.planned_are_described.Goals as goal

pub returns : goal.returns
returns c = planned_are_described
