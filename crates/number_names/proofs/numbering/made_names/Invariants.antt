use Rattle.std.proofs.Common.{◌≡◌, ◌++◌, drop}
use Rattle.numbered_names.specs.Numbers.{made_of}
use Rattle.number_names.proofs.numbering.made_names.Given as goal

abbrev pub invariant-loop-name : goal.invariant-loop-name
invariant-loop-name l = made_of l.names ≡ l.made ++ made_of (drop l.name-index l.names)
