use Rattle.std.proofs.Common.{◌∙◌, ap}
use Rattle.std.specs.Prelude.{max}
use Rattle.walk_program.proofs.Parts.{operands_noted}
use Rattle.walk_program.proofs.numbering.Numbering.operands.Goals as goal

pub returns : goal.returns
returns c =
    operands_noted c.in_ok-numbers.numbers c.args.names.now c.args.self.now c.listed.new.self c.widen.new.self c.in_ok-numbers.ensures c.in_ok-widen.ensures.names
    (c.in_ok-widen.ensures.width ∙ ap (max c.listed.new.self.width) c.len.ensures)
