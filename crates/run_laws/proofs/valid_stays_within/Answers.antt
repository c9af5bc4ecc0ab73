use Rattle.run_laws.proofs.Within.{stays_within}
use Rattle.run_laws.proofs.valid_stays_within.Goals as goal

pub returns : goal.returns
returns c = stays_within
