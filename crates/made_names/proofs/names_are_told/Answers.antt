use Rattle.made_names.proofs.Tells.{told}
use Rattle.made_names.proofs.names_are_told.Goals as goal

pub returns : goal.returns
returns c = told
