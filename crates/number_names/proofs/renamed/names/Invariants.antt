use Rattle.std.proofs.Common.{◌≡◌, map, take}
use Rattle.number_names.specs.Renaming.{new_name}
use Rattle.number_names.proofs.renamed.names.Given as goal

abbrev pub invariant-loop-name : goal.invariant-loop-name
invariant-loop-name l = l.renamed ≡ map (new_name l.numbering) (take l.name-index l.names)
