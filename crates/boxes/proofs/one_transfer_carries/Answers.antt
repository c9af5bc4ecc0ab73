use Rattle.boxes.proofs.Laws.{one_transfer_carries}
use Rattle.boxes.proofs.one_transfer_carries.Goals as goal

pub returns : goal.returns
returns c = one_transfer_carries
