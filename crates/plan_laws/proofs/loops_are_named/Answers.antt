use Rattle.plan_laws.proofs.Plans.{named}
use Rattle.plan_laws.proofs.loops_are_named.Goals as goal

pub returns : goal.returns
returns c = named
