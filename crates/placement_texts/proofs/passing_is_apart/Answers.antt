use Rattle.placement_texts.proofs.ApartValid.{all_apart}
use Rattle.placement_texts.proofs.passing_is_apart.Goals as goal

pub returns : goal.returns
returns c = λ made_by args symbols ss n h k. all_apart made_by args symbols ss n h k
