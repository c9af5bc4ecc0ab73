use Rattle.stage_output.proofs.Law.{stage_output}
use Rattle.stage_output.proofs.stage_output.Goals as goal

pub returns : goal.returns
returns c = stage_output
