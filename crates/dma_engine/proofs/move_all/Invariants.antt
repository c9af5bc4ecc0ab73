use Rattle.std.proofs.Common.{◌≡◌, ◌≤◌, Some}
use Rattle.tag_table.specs.declared.view.Work.{Work}
use Rattle.tag_table.specs.Shapes.{with_work}
use Rattle.dma_engine.specs.Met.{left_of}
use Rattle.dma_engine.proofs.move_all.Given as goal

abbrev pub invariant-loop : goal.invariant-loop
invariant-loop l = (w : Work) × (l.seat ≡ with_work l.initial.seat (Some w)) × (w.moved ≤ w.transfer.count)

abbrev pub decreases-loop : goal.decreases-loop
decreases-loop l = left_of l.seat.work
