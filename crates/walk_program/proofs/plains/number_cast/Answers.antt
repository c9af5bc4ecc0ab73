use Rattle.walk_program.proofs.Parts.{plain-Cast}
use Rattle.walk_program.proofs.plains.number_cast.Goals as goal

pub returns : goal.returns
returns c = plain-Cast c.in_ok-number.ensures c.in_ok-number-2.ensures c.args.kind c.args.from c.args.to
