use Rattle.stage_laws.proofs.Law.{stage_runs}
use Rattle.stage_laws.proofs.stage_runs.Goals as goal

pub returns : goal.returns
returns c = stage_runs
