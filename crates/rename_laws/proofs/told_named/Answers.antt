use Rattle.rename_laws.proofs.Told.{told_are}
use Rattle.rename_laws.proofs.told_named.Goals as goal

pub returns : goal.returns
returns c = told_are
