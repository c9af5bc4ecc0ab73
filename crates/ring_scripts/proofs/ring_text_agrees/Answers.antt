use Rattle.ring_scripts.proofs.Turns.{ring_text_agrees}
use Rattle.ring_scripts.proofs.ring_text_agrees.Goals as goal

pub returns : goal.returns
returns c = ring_text_agrees
