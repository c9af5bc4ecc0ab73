use Rattle.stage_reports.proofs.Lines.{report_comments}
use Rattle.stage_reports.proofs.report_is_comments.Goals as goal

pub returns : goal.returns
returns c = report_comments
