use Rattle.std.proofs.Common.{◌≡◌}
use Rattle.std.specs.Prelude.{string_bytes}
use Rattle.numbered_names.specs.Numbers.{prefix}
use Rattle.number_names.proofs.numbering.prefix.Given as goal

abbrev pub invariant-loop-underscore : goal.invariant-loop-underscore
invariant-loop-underscore l = string_bytes l.text ≡ prefix l._underscore
