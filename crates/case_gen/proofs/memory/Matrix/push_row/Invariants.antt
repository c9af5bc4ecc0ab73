use Rattle.std.proofs.Common.{◌≡◌, ◌++◌, map, pos}
use Rattle.std.specs.List.{range_with_len}
use Rattle.case_gen.specs.Parts.{element_of}
use Rattle.case_gen.proofs.memory.Matrix.push_row.Given as goal

abbrev pub invariant-loop-column : goal.invariant-loop-column
invariant-loop-column l = l.values ≡ l.initial.values ++ map (λ j. pos (element_of l.self l.row j)) (range_with_len 0 l.column)
