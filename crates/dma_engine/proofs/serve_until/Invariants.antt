use Rattle.tag_table.specs.Shapes.{IsIdle}
use Rattle.dma_engine.proofs.serve_until.Given as goal

abbrev pub invariant-loop : goal.invariant-loop
invariant-loop g l = IsIdle l.bus.id l.seat
