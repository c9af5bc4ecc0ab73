use Rattle.stage_texts.proofs.Keeps.{stage_keeps}
use Rattle.stage_texts.proofs.Limits.{written_keeps}
use Rattle.stage_texts.proofs.stage_keeps.Goals as goal

pub returns-clause-stages : goal.returns-clause-stages
returns-clause-stages c = stage_keeps

pub returns-clause-written : goal.returns-clause-written
returns-clause-written c = written_keeps
