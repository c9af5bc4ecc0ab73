use Rattle.walk_program.proofs.Parts.{numbers-subscripts}
use Rattle.walk_program.proofs.numbering.Numbering.subscripts.Goals as goal

pub returns : goal.returns
returns c = numbers-subscripts c.in_ok-operands.field-0 c.as_slice.result.now c.args.at.now c.in_ok-copy.field-0 c.args.self.now c.operands.new.self c.in_ok-copy.ensures c.as_slice.ensures c.in_ok-operands.ensures
