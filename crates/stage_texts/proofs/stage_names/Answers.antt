use Rattle.stage_texts.proofs.Law.{stage_names}
use Rattle.stage_texts.proofs.stage_names.Goals as goal

pub returns : goal.returns
returns c = stage_names
