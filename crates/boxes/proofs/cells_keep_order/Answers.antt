use Rattle.boxes.proofs.Laws.{cells_keep_order}
use Rattle.boxes.proofs.cells_keep_order.Goals as goal

pub returns : goal.returns
returns c = cells_keep_order
