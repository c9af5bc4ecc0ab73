use Rattle.lined_modules.proofs.Law.{lines_have_no_part}
use Rattle.lined_modules.proofs.lines_have_no_part.Goals as goal

pub returns : goal.returns
returns c = lines_have_no_part
