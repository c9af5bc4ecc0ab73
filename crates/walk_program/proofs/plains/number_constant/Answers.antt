use Rattle.std.proofs.Common.{rules}
use Rattle.walk_program.proofs.Parts.{plain-Constant}
use Rattle.walk_program.proofs.plains.number_constant.Goals as goal

pub returns : goal.returns
returns c = plain-Constant c.in_ok-number.ensures c.args.ty (search rules)
