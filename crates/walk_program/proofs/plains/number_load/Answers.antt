use Rattle.walk_program.proofs.Parts.{plain-Load}
use Rattle.walk_program.proofs.plains.number_load.Goals as goal

pub returns : goal.returns
returns c = plain-Load c.in_ok-number.ensures c.in_ok-number-2.ensures c.in_ok-subscripts.ensures c.in_ok-copy.ensures
