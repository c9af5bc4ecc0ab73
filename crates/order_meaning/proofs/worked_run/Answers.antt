use Rattle.order_meaning.proofs.WorkedRun.{worked_run}
use Rattle.order_meaning.proofs.worked_run.Goals as goal

pub returns : goal.returns
returns c = worked_run
