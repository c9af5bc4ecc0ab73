use Rattle.std.proofs.Common.{◌≡◌, drop}
use Rattle.box_covers.specs.Covers.{has_number}
use Rattle.box_covers.proofs.variables.has_number.Given as goal

abbrev pub invariant-loop-other : goal.invariant-loop-other
invariant-loop-other l = has_number l.fn.number l.numbers ≡ has_number l.fn.number (drop l.other-index l.numbers)
