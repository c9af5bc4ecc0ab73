use Rattle.prompt_laws.proofs.Conclusions as laws
use Rattle.prompt_laws.proofs.valid_runs_promptly.Goals as goal

pub returns : goal.returns
returns c = laws.valid_runs_promptly
