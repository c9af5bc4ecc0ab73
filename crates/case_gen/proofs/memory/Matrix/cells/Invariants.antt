use Rattle.std.proofs.Common.{◌≡◌, map, pos}
use Rattle.std.specs.List.{flat_map, range_with_len}
use Rattle.case_gen.specs.Parts.{element_of}
use Rattle.case_gen.proofs.memory.Matrix.cells.Given as goal

abbrev pub invariant-loop-row : goal.invariant-loop-row
invariant-loop-row l = l.values ≡ flat_map (λ i. map (λ j. pos (element_of l.self i j)) (range_with_len 0 l.size)) (range_with_len 0 l.row)
