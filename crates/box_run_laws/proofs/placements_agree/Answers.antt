use Rattle.box_run_laws.proofs.Theorem.{placements_agree}
use Rattle.box_run_laws.proofs.placements_agree.Goals as goal

pub returns : goal.returns
returns c = placements_agree
