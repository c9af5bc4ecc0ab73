use Rattle.walk_program.proofs.Parts.{plain-Value}
use Rattle.walk_program.proofs.plains.number_value.Goals as goal

pub returns : goal.returns
returns c = plain-Value c.in_ok-number.ensures c.args.pick c.in_ok-subscripts.ensures
