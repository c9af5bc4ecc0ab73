use Rattle.walk_program.proofs.Parts.{plain-Dealloc}
use Rattle.walk_program.proofs.plains.number_dealloc.Goals as goal

pub returns : goal.returns
returns c = plain-Dealloc c.in_ok-number.ensures c.in_ok-copy.ensures
