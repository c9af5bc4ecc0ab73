use Rattle.mem_image.proofs.Numbers.{number_read}
use Rattle.mem_image.proofs.forms.number.Goals as goal

pub returns : goal.returns
returns c = number_read c.args.text.now c.read_decimal.result c.requires c.read_decimal.ensures
