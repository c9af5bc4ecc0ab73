use Rattle.std.proofs.Common.{take}
use Rattle.walk_program.specs.Numbering.{Numbers, AreNumbers}
use Rattle.walk_program.proofs.numbering.Numbering.listed.Given as goal

abbrev pub invariant-loop-name : goal.invariant-loop-name
invariant-loop-name l = Numbers (AreNumbers l.numbers (take l.name-index l.names)) (take l.name-index l.names) 0 l.fn.self l.self
