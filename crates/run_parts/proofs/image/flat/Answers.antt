use Rattle.std.proofs.Common.{◌∙◌, ◌++◌, ap}
use Rattle.run_parts.proofs.Memories.{slow_more}
use Rattle.run_parts.proofs.image.flat.Goals as goal

pub loop-cells-preserved : goal.loop-cells-preserved
loop-cells-preserved c =
    slow_more c.args.memrefs.now c.loop-cells.cells-index c.cells-item.result c.loop-cells.slow.items c.extend_from_slice.new.self.items c.loop-cells-test.true c.cells-item.is c.loop-cells.invariant
    (c.in_ok-extend_from_slice.ensures.items ∙ ap (λ xs. c.loop-cells.slow.items ++ xs) c.as_slice.ensures)
