use Rattle.std.proofs.Common.{◌≡◌, ◌++◌, drop, flat_map}
use Rattle.mem_image.specs.Images.{rows, printed_row}
use Rattle.mem_image.proofs.print.print_image.Given as goal

abbrev pub invariant-loop-arg : goal.invariant-loop-arg
invariant-loop-arg l = flat_map printed_row (rows l.module.inner.args l.image.memrefs l.image.symbols) ≡ l.out.items ++ flat_map printed_row (rows (drop l.arg-index l.arg-items) l.memrefs l.symbols)
