use Rattle.stage_output.proofs.Law.{lines_change_nothing}
use Rattle.stage_output.proofs.lines_change_nothing.Goals as goal

pub returns : goal.returns
returns c = lines_change_nothing
