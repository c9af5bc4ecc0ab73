use Rattle.writable_modules.proofs.Given.{written_formed}
use Rattle.writable_modules.proofs.written_is_formed.Goals as goal

pub returns : goal.returns
returns c = written_formed
