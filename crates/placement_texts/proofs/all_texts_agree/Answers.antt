use Rattle.placement_texts.proofs.Folded.{all_texts}
use Rattle.placement_texts.proofs.all_texts_agree.Goals as goal

pub returns : goal.returns
returns c = λ made_by ss n e h fits r parted slow one apart. all_texts made_by ss n e h fits r parted slow one apart
