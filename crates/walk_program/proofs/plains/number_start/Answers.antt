use Rattle.walk_program.proofs.Parts.{plain-Start}
use Rattle.walk_program.proofs.plains.number_start.Goals as goal

pub returns : goal.returns
returns c = plain-Start c.in_ok-number.ensures c.in_ok-subscripts.ensures c.in_ok-number-2.ensures c.in_ok-subscripts-2.ensures c.in_ok-number-3.ensures c.in_ok-subscripts-3.ensures c.in_ok-number-4.ensures c.in_ok-stride.ensures c.in_ok-copy_types.ensures
