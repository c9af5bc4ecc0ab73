use Rattle.loop_forms.proofs.Cuts.{split_cuts}
use Rattle.loop_forms.proofs.split_cuts_turns.Goals as goal

pub returns : goal.returns
returns c = split_cuts
