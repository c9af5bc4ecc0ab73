use Rattle.placement_texts.proofs.Theorem.{texts}
use Rattle.placement_texts.proofs.texts_agree.Goals as goal

pub returns : goal.returns
returns c = λ own p order first new s n e g u a tidy fine. texts own p order first new s n e g u a tidy fine
