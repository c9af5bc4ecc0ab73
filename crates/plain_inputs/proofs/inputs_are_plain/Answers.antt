use Rattle.plain_inputs.proofs.Inputs.{inputs_are_plain}
use Rattle.plain_inputs.proofs.inputs_are_plain.Goals as goal

pub returns : goal.returns
returns c = inputs_are_plain
