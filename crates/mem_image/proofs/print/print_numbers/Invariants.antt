use Rattle.std.proofs.Common.{◌≡◌, ◌++◌, drop, flat_map}
use Rattle.mem_image.specs.Images.{printed_number}
use Rattle.mem_image.proofs.print.print_numbers.Given as goal

abbrev pub invariant-loop-number : goal.invariant-loop-number
invariant-loop-number l = l.initial.out.items ++ flat_map printed_number l.numbers ≡ l.out.items ++ flat_map printed_number (drop l.number-index l.numbers)
