use Rattle.walk_program.proofs.Parts.{plain-RawStore}
use Rattle.walk_program.proofs.plains.number_raw_store.Goals as goal

pub returns : goal.returns
returns c = plain-RawStore c.in_ok-number.ensures c.in_ok-number-2.ensures c.in_ok-operands.ensures c.in_ok-copy.ensures
