use Rattle.ring_scripts.proofs.Outward.{outward_text_agrees}
use Rattle.ring_scripts.proofs.outward_text_agrees.Goals as goal

pub returns : goal.returns
returns c = outward_text_agrees
