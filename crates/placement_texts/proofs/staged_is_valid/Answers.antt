use Rattle.placement_texts.proofs.StagedValid.{staged_valid}
use Rattle.placement_texts.proofs.staged_is_valid.Goals as goal

pub returns : goal.returns
returns c = λ own p s m n valid fits is tests. staged_valid own p s m n valid fits is tests
