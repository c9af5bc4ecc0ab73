use Rattle.peak_laws.proofs.Law.{valid_runs}
use Rattle.peak_laws.proofs.valid_runs_within_peak.Goals as goal

pub returns : goal.returns
returns c = valid_runs
