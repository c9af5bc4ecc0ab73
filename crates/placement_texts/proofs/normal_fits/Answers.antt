use Rattle.placement_texts.proofs.Normal.{normal_fits}
use Rattle.placement_texts.proofs.normal_fits.Goals as goal

pub returns : goal.returns
returns c = λ at fits. normal_fits at fits
