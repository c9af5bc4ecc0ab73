use Rattle.std.proofs.Common.{◌≡◌, take}
use Rattle.walk_program.specs.Numbering.{names_of_keys}
use Rattle.walk_program.proofs.numbering.Numbering.names.Given as goal

abbrev pub invariant-loop-key : goal.invariant-loop-key
invariant-loop-key l = l.names ≡ names_of_keys (take l.key-index l.key-items)
