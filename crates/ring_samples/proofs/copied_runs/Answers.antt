use Rattle.ring_samples.proofs.Example.{example_runs}
use Rattle.ring_samples.proofs.copied_runs.Goals as goal

pub returns : goal.returns
returns c = example_runs
