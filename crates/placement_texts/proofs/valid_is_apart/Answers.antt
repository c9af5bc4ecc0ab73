use Rattle.placement_texts.proofs.ApartValid.{valid_apart}
use Rattle.placement_texts.proofs.valid_is_apart.Goals as goal

pub returns : goal.returns
returns c = λ m valid symbols n ty order first there home. valid_apart m valid symbols n ty order first there home
