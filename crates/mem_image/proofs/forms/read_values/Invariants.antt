use Rattle.std.proofs.Common.{◌≡◌, ◌++◌, true, length, map}
use Rattle.std.specs.List.{list_all}
use Rattle.num_row.specs.Decimals.{is_decimal, decimal_value}
use Rattle.mem_image.specs.Lines.{words}
use Rattle.mem_image.specs.Forms as spec
use Rattle.mem_image.proofs.forms.read_values.Given as goal

abbrev pub invariant-loop-word : goal.invariant-loop-word
invariant-loop-word l = record {
  decimal : list_all is_decimal (words l.rest) ≡ true;
  between : spec.are_between l.range (words l.rest) ≡ true;
  same : map decimal_value (words l.line) ≡ l.values ++ map decimal_value (words l.rest);
}

abbrev pub decreases-loop-word : goal.decreases-loop-word
decreases-loop-word l = length l.rest
