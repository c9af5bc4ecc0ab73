use Rattle.staging_theorem.proofs.Law.{staged_runs}
use Rattle.staging_theorem.proofs.staged_runs.Goals as goal

pub returns : goal.returns
returns c = staged_runs
