use Rattle.std.proofs.Common.{◌∙◌, ap}
use Rattle.name_table.specs.Numbers.{number_in}
use Rattle.name_table.proofs.Numbering.{looked_up}
use Rattle.name_table.proofs.table.NameTable.number_of.Goals as goal

pub returns : goal.returns
returns c = c.copied.ensures ∙ c.get.ensures.value ∙ looked_up c.self.inside.numbers.entries c.args.name.now ∙ ap (number_in c.args.name.now) c.self.view_is
