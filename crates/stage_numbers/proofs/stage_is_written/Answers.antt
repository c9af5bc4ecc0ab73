use Rattle.stage_numbers.proofs.Parameters.{stage_numbered}
use Rattle.stage_numbers.proofs.Written.{stage_written, stage_spelled}
use Rattle.stage_numbers.proofs.stage_is_written.Goals as goal

pub returns-clause-written : goal.returns-clause-written
returns-clause-written c = stage_written

pub returns-clause-spelled : goal.returns-clause-spelled
returns-clause-spelled c = stage_spelled

pub returns-clause-numbered : goal.returns-clause-numbered
returns-clause-numbered c = stage_numbered
