use Rattle.walk_program.proofs.Parts.{plain-RawLoad}
use Rattle.walk_program.proofs.plains.number_raw_load.Goals as goal

pub returns : goal.returns
returns c = plain-RawLoad c.in_ok-number.ensures c.in_ok-number-2.ensures c.in_ok-operands.ensures c.in_ok-copy.ensures
