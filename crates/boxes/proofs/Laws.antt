-- The laws of boxes.
use Rattle.std.proofs.Common.{◌≡◌, false, true}
use Rattle.boxes.specs.Boxes.{Shape, Whole, OneRun, Even, Runs, Mixed, shape, is_mixed}
use Rattle.boxes.specs.Laws.{CellsKeepOrder, ElementsAreCells, OneTransferCarries}
use Rattle.boxes.proofs.Places.{cell_in, cell_rises, cell_of_number}
use Rattle.boxes.proofs.Transfers.{IsMixed, transfer_carries}

pub cells_keep_order : CellsKeepOrder
cells_keep_order = record { inside = cell_in; rises = cell_rises }

pub elements_are_cells : ElementsAreCells
elements_are_cells = cell_of_number

not_mixed : (s : Shape) → is_mixed s ≡ false → IsMixed s → ⊥
not_mixed Whole e m = m
not_mixed OneRun e m = m
not_mixed (Even c s) e m = m
not_mixed (Runs c s) e m = m
not_mixed Mixed e m = let f : true ≡ false = e in absurd (cc)

pub one_transfer_carries : OneTransferCarries
one_transfer_carries ds b even t less = transfer_carries ds b (not_mixed (shape ds) even) t less
