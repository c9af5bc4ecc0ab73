use Rattle.lined_modules.proofs.Law.{all_are_lined}
use Rattle.lined_modules.proofs.all_are_lined.Goals as goal

pub returns : goal.returns
returns c = all_are_lined
