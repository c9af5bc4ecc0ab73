use Rattle.std.proofs.Common.{map, pos}
use Rattle.std.specs.List.{range_with_len}
use Rattle.case_gen.specs.Parts.{element_of}
use Rattle.case_gen.proofs.Fitting.{rows_more}
use Rattle.case_gen.proofs.memory.Matrix.cells.Goals as goal

pub loop-row-preserved : goal.loop-row-preserved
loop-row-preserved c = rows_more (λ i. map (λ j. pos (element_of c.args.self i j)) (range_with_len 0 c.args.size)) c.loop-row.row _ _ c.loop-row.invariant c.in_ok-push_row.ensures
