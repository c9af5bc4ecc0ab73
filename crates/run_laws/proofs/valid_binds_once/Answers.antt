use Rattle.run_laws.proofs.Once.{binds_once}
use Rattle.run_laws.proofs.valid_binds_once.Goals as goal

pub returns : goal.returns
returns c = binds_once
