use Rattle.command_words.proofs.Numbers.{number_read}
use Rattle.command_words.proofs.matches.integer.Goals as goal

pub returns : goal.returns
returns c = number_read c.args.text.now c.read_decimal.result c.requires c.read_decimal.ensures
