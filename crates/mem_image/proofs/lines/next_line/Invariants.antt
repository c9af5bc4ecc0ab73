use Rattle.std.proofs.Common.{◌≡◌, ◌≤◌, ◌+◌, length}
use Rattle.std.specs.Str.Lines.{lines}
use Rattle.mem_image.specs.Lines.{written_behind}
use Rattle.mem_image.proofs.lines.next_line.Given as goal

abbrev pub invariant-loop-line : goal.invariant-loop-line
invariant-loop-line l = record {
  same : written_behind l.initial.rest.lines (lines l.initial.rest.bytes.now) ≡ written_behind l.rest.lines (lines l.rest.bytes.now);
  counted : l.rest.lines + length (lines l.rest.bytes.now) ≡ l.initial.rest.lines + length (lines l.initial.rest.bytes.now);
  within : l.rest.lines + length l.rest.bytes.now ≤ l.initial.rest.lines + length l.initial.rest.bytes.now;
  shorter : length l.rest.bytes.now ≤ length l.initial.rest.bytes.now;
}

abbrev pub decreases-loop-line : goal.decreases-loop-line
decreases-loop-line l = length l.rest.bytes.now
