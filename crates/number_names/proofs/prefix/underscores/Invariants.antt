use Rattle.std.proofs.Common.{◌≡◌, drop}
use Rattle.number_names.specs.Underscores.{most_from}
use Rattle.number_names.proofs.prefix.underscores.Given as goal

abbrev pub invariant-loop-name : goal.invariant-loop-name
invariant-loop-name l = most_from 0 l.names ≡ most_from l.most (drop l.name-index l.names)
