use Rattle.std.proofs.Common.{◌≡◌, ◌+◌, ◌≤◌, suc, [], drop, length}
use Rattle.std.specs.Str.Lines.{lines}
use Rattle.mem_image.specs.Lines.{written, written_behind}
use Rattle.mem_image.proofs.Told.{told}
use Rattle.mem_image.proofs.parse.parse_image.Given as goal

abbrev pub invariant-loop-arg : goal.invariant-loop-arg
invariant-loop-arg l = record {
  same : told l.module.inner.args (written l.bytes) (suc (length (lines l.bytes))) [] [] ≡ told (drop l.arg-index l.arg-items) (written_behind l.rest.lines (lines l.rest.bytes.now)) (suc (length (lines l.bytes))) l.image.memrefs l.image.symbols;
  counted : l.rest.lines + length (lines l.rest.bytes.now) ≡ length (lines l.bytes);
  within : l.rest.lines + length l.rest.bytes.now ≤ length l.bytes;
}
