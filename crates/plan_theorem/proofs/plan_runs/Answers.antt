use Rattle.plan_theorem.proofs.Theorem.{plan_runs}
use Rattle.plan_theorem.proofs.plan_runs.Goals as goal

pub returns : goal.returns
returns c = plan_runs
