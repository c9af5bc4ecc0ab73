use Rattle.placement_stage.proofs.Valid.{valid_small}
use Rattle.placement_stage.proofs.valid_texts_are_small.Goals as goal

pub returns : goal.returns
returns c = valid_small
