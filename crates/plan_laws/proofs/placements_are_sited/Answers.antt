use Rattle.plan_laws.proofs.Sited.{sited}
use Rattle.plan_laws.proofs.placements_are_sited.Goals as goal

pub returns : goal.returns
returns c = sited
