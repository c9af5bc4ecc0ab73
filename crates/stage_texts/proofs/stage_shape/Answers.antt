use Rattle.stage_texts.proofs.Shape.{stage_shape, written_shape}
use Rattle.stage_texts.proofs.stage_shape.Goals as goal

pub returns-clause-stages : goal.returns-clause-stages
returns-clause-stages c = stage_shape

pub returns-clause-written : goal.returns-clause-written
returns-clause-written c = written_shape
