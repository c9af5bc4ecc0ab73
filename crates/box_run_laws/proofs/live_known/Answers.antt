use Rattle.box_run_laws.proofs.Live.{live_known}
use Rattle.box_run_laws.proofs.live_known.Goals as goal

pub returns : goal.returns
returns c = live_known
