use Rattle.peak_laws.proofs.Law.{valid_takes}
use Rattle.peak_laws.proofs.valid_takes_few_bytes.Goals as goal

pub returns : goal.returns
returns c = valid_takes
