use Rattle.prompt_laws.proofs.Direct as laws
use Rattle.prompt_laws.proofs.prompt_is_direct.Goals as goal

pub returns : goal.returns
returns c = laws.prompt_is_direct
