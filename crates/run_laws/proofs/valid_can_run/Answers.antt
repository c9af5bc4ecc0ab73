use Rattle.run_laws.proofs.Conclusions.{can_run}
use Rattle.run_laws.proofs.valid_can_run.Goals as goal

pub returns : goal.returns
returns c = can_run
