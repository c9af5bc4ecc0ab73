use Rattle.placement_stage.proofs.Alls.{steps_staged}
use Rattle.placement_stage.proofs.all.steps_are_staged.Goals as goal

pub returns : goal.returns
returns c = steps_staged
