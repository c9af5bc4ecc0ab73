use Rattle.walk_program.proofs.Parts.{plain-Binary}
use Rattle.walk_program.proofs.plains.number_binary.Goals as goal

pub returns : goal.returns
returns c = plain-Binary c.in_ok-number.ensures c.in_ok-number-2.ensures c.args.op c.args.ty c.in_ok-number-3.ensures
