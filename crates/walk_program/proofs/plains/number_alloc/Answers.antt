use Rattle.walk_program.proofs.Parts.{plain-Alloc}
use Rattle.walk_program.proofs.plains.number_alloc.Goals as goal

pub returns : goal.returns
returns c = plain-Alloc c.in_ok-number.ensures c.in_ok-copy.ensures
