use Rattle.box_run_laws.proofs.Theorem.{staging_agrees}
use Rattle.box_run_laws.proofs.staging_agrees.Goals as goal

pub returns : goal.returns
returns c = staging_agrees
