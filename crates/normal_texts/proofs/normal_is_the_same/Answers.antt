use Rattle.normal_texts.proofs.Texts.{normal_is_the_same}
use Rattle.normal_texts.proofs.normal_is_the_same.Goals as goal

pub returns : goal.returns
returns c = normal_is_the_same
