use Rattle.plan_numbers.proofs.Valid.{tiles_are_staged}
use Rattle.plan_numbers.proofs.tiles_are_staged.Goals as goal

pub returns : goal.returns
returns c = tiles_are_staged
