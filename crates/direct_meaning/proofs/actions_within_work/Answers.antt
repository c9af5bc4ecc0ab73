use Rattle.direct_meaning.proofs.RangesHold.{within_work}
use Rattle.direct_meaning.proofs.actions_within_work.Goals as goal

pub returns : goal.returns
returns c = λ m affine memory fits. within_work m affine memory fits
