use Rattle.stage_laws.proofs.Law.{texts_stage}
use Rattle.stage_laws.proofs.texts_stage.Goals as goal

pub returns : goal.returns
returns c = texts_stage
