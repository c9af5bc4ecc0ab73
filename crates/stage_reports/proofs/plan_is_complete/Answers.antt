use Rattle.stage_reports.proofs.Complete.{complete}
use Rattle.stage_reports.proofs.plan_is_complete.Goals as goal

pub returns : goal.returns
returns c = complete
