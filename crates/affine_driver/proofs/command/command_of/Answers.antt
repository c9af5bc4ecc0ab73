use Rattle.std.proofs.Common.{◌∙◌, sym}
use Rattle.affine_driver.proofs.Commands.{words_ask}
use Rattle.affine_driver.proofs.command.command_of.Goals as goal

pub returns-in-Some : goal.returns-in-Some
returns-in-Some c = words_ask c.args.words.now _ c.in-Some.first c.command_behind.result c.in-len1-up.len_at_least (sym c.first_word.ensures ∙ c.in-Some.is) c.command_behind.ensures
