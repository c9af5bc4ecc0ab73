use Rattle.std.proofs.Common.{◌≡◌, length}
use Rattle.std.specs.List.{list_all}
use Rattle.num_row.specs.Decimals.{is_decimal}
use Rattle.mem_image.specs.Lines.{words}
use Rattle.mem_image.proofs.forms.are_decimal.Given as goal

abbrev pub invariant-loop-word : goal.invariant-loop-word
invariant-loop-word l = list_all is_decimal (words l.line) ≡ list_all is_decimal (words l.rest)

abbrev pub decreases-loop-word : goal.decreases-loop-word
decreases-loop-word l = length l.rest
