use Rattle.placement_texts.proofs.Normal.{normal_valid}
use Rattle.placement_texts.proofs.normal_stays_valid.Goals as goal

pub returns : goal.returns
returns c = λ s at fits. normal_valid s at fits
