use Rattle.run_laws.proofs.Conclusions.{stays_fitting}
use Rattle.run_laws.proofs.valid_stays_fitting.Goals as goal

pub returns : goal.returns
returns c = stays_fitting
