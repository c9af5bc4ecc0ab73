use Rattle.walk_program.proofs.Parts.{plain-Wait}
use Rattle.walk_program.proofs.plains.number_wait.Goals as goal

pub returns : goal.returns
returns c = plain-Wait c.in_ok-number.ensures c.in_ok-subscripts.ensures c.in_ok-number-2.ensures c.in_ok-copy.ensures
