use Rattle.std.proofs.Common.{◌≡◌, drop}
use Rattle.box_covers.specs.Covers.{are_distinct}
use Rattle.box_covers.proofs.variables.are_distinct.Given as goal

abbrev pub invariant-loop-place : goal.invariant-loop-place
invariant-loop-place l = are_distinct l.numbers ≡ are_distinct (drop l.place l.numbers)
