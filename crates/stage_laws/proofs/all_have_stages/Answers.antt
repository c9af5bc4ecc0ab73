use Rattle.stage_laws.proofs.Total.{all_have_stages}
use Rattle.stage_laws.proofs.all_have_stages.Goals as goal

pub returns : goal.returns
returns c = all_have_stages
