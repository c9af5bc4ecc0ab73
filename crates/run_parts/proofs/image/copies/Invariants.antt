use Rattle.std.proofs.Common.{◌≡◌, take}
use Rattle.run_parts.proofs.image.copies.Given as goal

abbrev pub invariant-loop-cells : goal.invariant-loop-cells
invariant-loop-cells l = l.copies.items ≡ take l.cells-index l.memrefs
