use Rattle.stage_texts.proofs.Ordered.{normal_appears}
use Rattle.stage_texts.proofs.normal_appears.Goals as goal

pub returns : goal.returns
returns c = normal_appears
