use Rattle.std.proofs.Common.{◌≡◌, map, take}
use Rattle.numbered_names.specs.Numbers.{numbered_arg}
use Rattle.number_names.specs.Renaming.{new_name}
use Rattle.number_names.proofs.renamed.renamed_args.Given as goal

abbrev pub invariant-loop-arg : goal.invariant-loop-arg
invariant-loop-arg l = l.renamed ≡ map (numbered_arg (new_name l.numbering)) (take l.arg-index l.args)
