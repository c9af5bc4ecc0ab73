use Rattle.numbered_names.proofs.Laws.{numbered_runs}
use Rattle.numbered_names.proofs.numbered_runs.Goals as goal

pub returns : goal.returns
returns c = numbered_runs
