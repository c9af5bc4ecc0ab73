use Rattle.stage_output.proofs.Law.{stages_run}
use Rattle.stage_output.proofs.stages_run.Goals as goal

pub returns : goal.returns
returns c = stages_run
