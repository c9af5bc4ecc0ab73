use Rattle.affine_driver.proofs.Headlines.{staged_texts_run}
use Rattle.affine_driver.proofs.laws.staged_texts_run.Goals as goal

pub returns : goal.returns
returns c = staged_texts_run c.stage_output.ensures c.report_is_comments.ensures
