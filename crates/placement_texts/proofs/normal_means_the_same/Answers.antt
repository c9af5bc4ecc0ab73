use Rattle.placement_texts.proofs.Normal.{normal_same}
use Rattle.placement_texts.proofs.normal_means_the_same.Goals as goal

pub returns : goal.returns
returns c = λ e at fits. normal_same e at fits
