use Rattle.rename_laws.proofs.Actions.{actions_are}
use Rattle.rename_laws.proofs.actions_named.Goals as goal

pub returns : goal.returns
returns c = actions_are
