use Rattle.carried_boxes.proofs.Widened.{widens_until_carried}
use Rattle.carried_boxes.proofs.widens_until_carried.Goals as goal

pub returns : goal.returns
returns c = widens_until_carried
