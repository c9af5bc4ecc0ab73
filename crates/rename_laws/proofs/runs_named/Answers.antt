use Rattle.rename_laws.proofs.Runs.{runs_are}
use Rattle.rename_laws.proofs.runs_named.Goals as goal

pub returns : goal.returns
returns c = runs_are
