use Rattle.box_run_laws.proofs.Theorem.{kept}
use Rattle.box_run_laws.proofs.capacity_kept.Goals as goal

pub returns : goal.returns
returns c = kept
