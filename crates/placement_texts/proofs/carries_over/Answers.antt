use Rattle.placement_texts.proofs.Theorem.{carries}
use Rattle.placement_texts.proofs.carries_over.Goals as goal

pub returns : goal.returns
returns c = λ own p order first new s n e g u line a fine o order' first' t o_own o_dims differ j. carries own p order first new s n e g u line a fine o order' first' t o_own o_dims differ j
