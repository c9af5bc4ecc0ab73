use Rattle.plain_inputs.proofs.Inputs.{inputs_are_quiet}
use Rattle.plain_inputs.proofs.inputs_are_quiet.Goals as goal

pub returns : goal.returns
returns c = inputs_are_quiet
