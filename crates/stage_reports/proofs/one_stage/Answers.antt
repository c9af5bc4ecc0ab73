use Rattle.stage_reports.proofs.Stages.{one_stage}
use Rattle.stage_reports.proofs.one_stage.Goals as goal

pub returns : goal.returns
returns c = one_stage
