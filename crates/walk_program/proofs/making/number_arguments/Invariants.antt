use Rattle.std.proofs.Common.{take}
use Rattle.walk_program.specs.Names.{uses_of_arguments}
use Rattle.walk_program.specs.Numbering.{Numbers, AreArguments}
use Rattle.walk_program.proofs.making.number_arguments.Given as goal

abbrev pub invariant-loop-arg : goal.invariant-loop-arg
invariant-loop-arg l = Numbers (AreArguments l.arguments (take l.arg-index l.args)) (uses_of_arguments (take l.arg-index l.args)) 0 l.fn.numbering l.numbering
