use Rattle.std.proofs.Common.{take}
use Rattle.affine_ast.specs.Nest.{nest}
use Rattle.walk_program.specs.Numbering.{NumbersRegion}
use Rattle.walk_program.proofs.regions.+regions.Given as goal

abbrev pub invariant-number_region-loop-stmt : goal.invariant-number_region-loop-stmt
invariant-number_region-loop-stmt l = NumbersRegion l.statements l.inside (nest (take l.stmt-index l.stmts)) l.fn.numbering l.numbering
