use Rattle.std.proofs.Common.{◌≡◌, take}
use Rattle.direct_meaning.specs.Memory.{slow_list}
use Rattle.run_parts.proofs.image.flat.Given as goal

abbrev pub invariant-loop-cells : goal.invariant-loop-cells
invariant-loop-cells l = l.slow.items ≡ slow_list (take l.cells-index l.memrefs)
