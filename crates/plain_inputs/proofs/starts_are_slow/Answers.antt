use Rattle.plain_inputs.proofs.Inputs.{starts_are_slow}
use Rattle.plain_inputs.proofs.starts_are_slow.Goals as goal

pub returns : goal.returns
returns c = starts_are_slow
