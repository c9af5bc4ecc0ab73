use Rattle.writable_modules.proofs.Walk.{valid_written, written_spelled}
use Rattle.writable_modules.proofs.valid_may_be_written.Goals as goal

pub returns-clause-written : goal.returns-clause-written
returns-clause-written c = valid_written

pub returns-clause-spelled : goal.returns-clause-spelled
returns-clause-spelled c = written_spelled
