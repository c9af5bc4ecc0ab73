use Rattle.staging_laws.proofs.Theorem.{one_agrees}
use Rattle.staging_laws.proofs.one_agrees.Goals as goal

pub returns : goal.returns
returns c = one_agrees
