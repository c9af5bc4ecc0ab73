use Rattle.boxes.proofs.Laws.{elements_are_cells}
use Rattle.boxes.proofs.elements_are_cells.Goals as goal

pub returns : goal.returns
returns c = elements_are_cells
