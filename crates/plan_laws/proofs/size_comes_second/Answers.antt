use Rattle.plan_laws.proofs.Plans.{size_comes_second}
use Rattle.plan_laws.proofs.size_comes_second.Goals as goal

pub returns : goal.returns
returns c = size_comes_second
